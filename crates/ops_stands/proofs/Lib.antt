pub mod CardsStandLaws
pub mod OpsStandsLaws
pub mod StandingLaws
