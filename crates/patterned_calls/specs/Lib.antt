pub mod CallsBy
pub mod CallsByLaws
