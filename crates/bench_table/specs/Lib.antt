pub mod BenchTable
pub mod DAdmitted
pub mod DValues
pub mod DKeys
pub mod NumberTable
pub mod SittingsTable
pub mod PatternTable
