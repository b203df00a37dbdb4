pub mod FstTells
