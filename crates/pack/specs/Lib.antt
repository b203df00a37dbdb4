pub mod PackList
pub mod PackListLaws
