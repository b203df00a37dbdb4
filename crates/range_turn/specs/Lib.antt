pub mod Turns
pub mod StartStateLaws
