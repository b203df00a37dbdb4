pub mod PackBlank
pub mod PackBlankLaws
