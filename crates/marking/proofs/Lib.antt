pub mod MarksLaws
pub mod MarksRightLaws
pub mod NamedLaws
