-- Lemmas on the pops and on the walk by pattern, for the proofs of this crate.
mod PopByLaws
mod WalkingLaws
