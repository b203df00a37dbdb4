pub mod MarksByDemand
