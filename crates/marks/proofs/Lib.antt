-- Lemmas on the cases of the calls, for the proofs of this crate.
mod MarkCases
