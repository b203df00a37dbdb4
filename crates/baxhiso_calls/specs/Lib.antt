pub mod CCalls
pub mod CCallsLaws
