-- Lemmas on plain lists and numbers, for the proofs of this crate.
mod Surveying
mod Marking
mod JudgedNodes
mod Marks
mod Numbers
