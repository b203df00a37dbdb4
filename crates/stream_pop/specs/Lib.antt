pub mod Pops
pub mod ReadyLaws
