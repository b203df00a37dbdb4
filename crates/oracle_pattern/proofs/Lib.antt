-- What is told of a start and of a call by pattern, for the proofs of this crate.
mod TellingBy
