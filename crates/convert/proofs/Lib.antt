pub mod Finishing
pub mod Old
pub mod Again
