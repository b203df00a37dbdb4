-- Lemmas on strings compared, for the proofs of this crate.
mod OrderLaws
