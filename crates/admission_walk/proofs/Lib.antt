-- Lemmas on plain lists and numbers, for the proofs of this crate.
mod Walking
mod Linking
