pub mod Readings
pub mod ReadingsLaws
pub mod RangeResultLaws
