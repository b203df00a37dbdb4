pub mod PackFiles
pub mod PackFilesLaws
