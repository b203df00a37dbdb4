pub mod Calls
pub mod CallsLaws
