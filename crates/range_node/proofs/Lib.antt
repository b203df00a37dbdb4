-- Lemmas on a judged node, for the proofs of this crate.
mod Reread
