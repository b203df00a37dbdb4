-- Lemmas on the descent, for the proofs of this crate.
mod GoingByLaws
