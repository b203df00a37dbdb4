-- Lemmas on the count, for the proofs of this crate.
mod CountOfLaws
