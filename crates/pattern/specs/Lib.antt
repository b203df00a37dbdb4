pub mod Pattern
pub mod PatternDemand
pub mod FitCount
pub mod Laws
