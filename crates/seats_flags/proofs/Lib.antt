-- Lemmas on the loops over the seats, for the proofs of this crate.
mod FlagScans
