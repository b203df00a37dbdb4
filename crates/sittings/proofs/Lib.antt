pub mod RisingLaws
pub mod SittingsLaws
pub mod TwoPartsLaws
