pub mod Outcome
pub mod Exactly
pub mod WipingLaws
