pub mod Row
pub mod RowLaws
