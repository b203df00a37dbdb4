pub mod OpenNodes
pub mod Closing
pub mod ClosingLaws
