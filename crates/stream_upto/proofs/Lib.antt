pub mod TotalLaws
pub mod Summing
pub mod Walking
