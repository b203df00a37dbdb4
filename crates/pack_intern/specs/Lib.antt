pub mod Interning
pub mod InterningLaws
