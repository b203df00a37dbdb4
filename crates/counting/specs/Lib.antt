pub mod CountOutcomes
pub mod CountPasses
