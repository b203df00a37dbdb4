pub mod Verdicts
pub mod VerdictsLaws
