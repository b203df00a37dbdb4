-- What a result is read back as, for the proofs of this crate.
pub mod PackResults
