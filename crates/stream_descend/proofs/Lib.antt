-- Lemmas on the levels, for the proofs of this crate.
mod DescendLaws
mod FollowLaws
mod GoingLaws
