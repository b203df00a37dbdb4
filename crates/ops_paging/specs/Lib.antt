pub mod ItemPaging
pub mod ItemsExact
