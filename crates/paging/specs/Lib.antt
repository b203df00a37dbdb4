pub mod Paging
pub mod RangeExact
