pub mod Choices
pub mod ChoicesLaws
pub mod FitOfLaws
