-- Lemmas on the loops over a name and over the marks, for the proofs of this crate.
mod MarkScans
