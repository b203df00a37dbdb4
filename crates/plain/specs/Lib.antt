pub mod Numbers
pub mod Plain
pub mod PlainDemand
pub mod PlainRun
