pub mod LiveRounds
pub mod LiveLoads
