pub mod MarkCalls
pub mod MarksRight
pub mod MarksDemand
