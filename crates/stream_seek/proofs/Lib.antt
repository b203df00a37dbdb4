pub mod SeekCases
pub mod Seeking
