-- Lemmas on lists and numbers, for the proofs of this crate.
mod EightWrites
