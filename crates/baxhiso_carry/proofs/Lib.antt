-- What a result is read back as, for the proofs of this crate.
mod CarryResults
