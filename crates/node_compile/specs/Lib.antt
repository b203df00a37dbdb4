pub mod Compile
pub mod Parts
pub mod CompileLaws
pub mod StateLaws
pub mod One
pub mod OneLaws
