-- Lemmas on the cases of next, for the proofs of this crate.
mod NextByCases
