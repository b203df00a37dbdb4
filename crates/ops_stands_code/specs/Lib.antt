pub mod CodeStands
pub mod CodeStandsLaws
