-- Lemmas on the cases of carrying, for the proofs of this crate.
mod CarryCases
