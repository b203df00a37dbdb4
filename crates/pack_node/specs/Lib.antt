pub mod NodeSteps
pub mod NodeStepsLaws
