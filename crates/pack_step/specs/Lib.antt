pub mod Standing
pub mod StandingLaws
