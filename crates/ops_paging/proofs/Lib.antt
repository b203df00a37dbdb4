pub mod EightLaws
pub mod ItemFoldLaws
pub mod ItemsLaws
pub mod WideLaws
