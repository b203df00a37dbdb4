-- What is told of a carried reading, for the proofs of this crate.
mod TellingCarry
