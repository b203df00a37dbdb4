pub mod Counts
pub mod CountsLaws
