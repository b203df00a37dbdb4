pub mod Converting
pub mod Mirror
pub mod Standing
pub mod Converted
pub mod Laws
