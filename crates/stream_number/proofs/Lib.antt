pub mod Comparing
pub mod NumberCases
