pub mod AddKeys
pub mod AddKeysLaws
