pub mod Read
pub mod ReadLaws
pub mod AccessorLaws
pub mod JudgedLaws
