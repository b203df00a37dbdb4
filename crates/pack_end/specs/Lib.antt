pub mod Ending
pub mod EndingLaws
