-- Laws of the definition, for the proofs of this crate.
mod FillCases
