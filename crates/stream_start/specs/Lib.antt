pub mod Views
pub mod StackLaws
pub mod Starts
pub mod StartLaws
