pub mod NumberLaws
pub mod PlainLaws
pub mod PlainRunLaws
pub mod UpToLaws
