-- Laws of the order of strings, for the proofs of this crate.
mod Sides
mod Reaches
mod Standings
