pub mod Idx
