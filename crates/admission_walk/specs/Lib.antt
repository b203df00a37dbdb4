pub mod Walks
pub mod SoundNodeLaws
pub mod MarksLaws
