pub mod Judged
pub mod JudgedLaws
pub mod Stepped
pub mod Steps
pub mod SteppedLaws
