pub mod FindArguments
pub mod FindLaws
pub mod NonzeroLaws
