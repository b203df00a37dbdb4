pub mod FoldLaws
pub mod RangeLaws
pub mod PagesLaws
pub mod RowLaws
