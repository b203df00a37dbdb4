pub mod Turns
pub mod TurnsDemand
