pub mod MarkViews
pub mod MarkViewsLaws
