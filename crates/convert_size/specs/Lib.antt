pub mod Sizes
pub mod SingleLaws
