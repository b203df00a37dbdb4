-- Laws of the definition, and of the rows on the way, for the proofs of this crate.
mod FindCases
