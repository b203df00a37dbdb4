pub mod Walk
pub mod Types
pub mod Steps
pub mod Structs
pub mod Enums
pub mod Locals
pub mod SliceSteps
pub mod Theorem
