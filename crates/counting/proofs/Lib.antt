-- Lemmas on plain lists and numbers, for the proofs of this crate.
mod Passing
mod Leaving
pub mod CountLaws
pub mod CountExactly
