pub mod Inserting
pub mod OpenKeyLaws
pub mod InsertingLaws
