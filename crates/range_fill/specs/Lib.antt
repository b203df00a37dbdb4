pub mod RangedRows
pub mod FillLaws
