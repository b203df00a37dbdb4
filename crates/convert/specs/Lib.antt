pub mod Convert
pub mod ConvertLaws
