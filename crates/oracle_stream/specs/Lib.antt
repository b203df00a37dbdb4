pub mod Runs
pub mod StreamTells
pub mod StreamTellsLaws
