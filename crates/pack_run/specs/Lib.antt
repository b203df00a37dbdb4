pub mod Running
pub mod RunningLaws
