-- Lemmas on what the functions leave, for the proofs of this crate.
mod SeatResults
mod DispatchResults
