pub mod Gathering
pub mod Packing
