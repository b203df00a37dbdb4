-- A law of the definition, for the proof of this crate.
mod TellingRange
