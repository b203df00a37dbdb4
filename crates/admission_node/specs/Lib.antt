pub mod Entries
pub mod KeptLaws
pub mod TotalLaws
pub mod ChildLaws
