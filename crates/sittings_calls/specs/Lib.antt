pub mod CodeSittings
pub mod CodeSittingsLaws
