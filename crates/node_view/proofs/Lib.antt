-- Lemmas for the proofs of this crate.
mod ViewAnswers
