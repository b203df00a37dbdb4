pub mod Stacks
pub mod StackLaws
pub mod PutLaws
