pub mod PagedItems
pub mod PageLaws
pub mod LivePages
