-- Lemmas on the levels, for the proofs of this crate.
mod RangeDescent
mod GoingDown
