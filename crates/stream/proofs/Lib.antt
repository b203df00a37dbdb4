-- Lemmas on the cases of start and next, for the proofs of this crate.
mod PlainCases
mod StartCases
