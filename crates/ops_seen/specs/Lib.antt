pub mod Sights
pub mod SightsLaws
