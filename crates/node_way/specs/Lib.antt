pub mod Ways
pub mod WaysLaws
pub mod StepOfLaws
pub mod FormLaws
