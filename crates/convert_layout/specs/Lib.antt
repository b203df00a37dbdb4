pub mod Layout
pub mod PartLaws
