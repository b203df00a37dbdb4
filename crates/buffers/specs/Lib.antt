pub mod Decide
pub mod DecideLaws
pub mod Put
pub mod PutLaws
pub mod CopyLaws
pub mod WritingLaws
pub mod FillingLaws
