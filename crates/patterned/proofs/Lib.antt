-- Lemmas on a start, for the proofs of this crate.
mod StartByLaws
