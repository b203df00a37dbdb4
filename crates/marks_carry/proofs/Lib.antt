-- Lemmas on the cases of carrying with marks, for the proofs of this crate.
mod MarkCarryCases
