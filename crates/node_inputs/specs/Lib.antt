pub mod Inputs
pub mod AscentLaws
