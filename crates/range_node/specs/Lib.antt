pub mod Entries
pub mod EntriesLaws
