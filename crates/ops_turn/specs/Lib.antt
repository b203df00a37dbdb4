pub mod Parts
pub mod LoadLaws
pub mod PartsLaws
