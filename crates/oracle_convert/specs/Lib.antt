pub mod ConvertTells
