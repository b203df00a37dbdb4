-- Lemmas on a step, for the proofs of this crate.
mod StepByCases
