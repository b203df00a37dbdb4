pub mod OpsCalls
pub mod OpsLikeLaws
pub mod OpsCallsLaws
