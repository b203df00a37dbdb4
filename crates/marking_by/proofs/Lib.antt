pub mod MarksByLaws
