pub mod RowClosing
pub mod RowClosingLaws
