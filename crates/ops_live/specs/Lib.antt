pub mod Lives
pub mod LivesLaws
