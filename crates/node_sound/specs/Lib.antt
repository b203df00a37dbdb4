pub mod Shapes
pub mod ShapesLaws
pub mod JudgingLaws
