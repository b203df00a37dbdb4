pub mod PackTells
