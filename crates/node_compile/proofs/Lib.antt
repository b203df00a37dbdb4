-- Lemmas on plain lists and numbers, for the proofs of this crate.
mod Record
mod Largest
mod Sizes
mod Storing
mod States
mod Ones
mod Whole
