pub mod AloneLaws
pub mod DispatchLimitLaws
pub mod FairLaws
pub mod TurnsLaws
