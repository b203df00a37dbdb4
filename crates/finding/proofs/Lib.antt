pub mod FindLaws
pub mod FindPagesLaws
pub mod FoldByLaws
