pub mod Records
pub mod RecordLaws
pub mod Tallies
pub mod Recorded
