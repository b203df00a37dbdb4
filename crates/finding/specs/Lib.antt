pub mod Finding
pub mod FindExact
