pub mod Lists
pub mod Registry
pub mod Packing
pub mod Promise
pub mod Kept
