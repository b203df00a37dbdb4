-- Lemmas on the beginning of a listing, for the proofs of this crate.
mod BegunLaws
