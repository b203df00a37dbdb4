pub mod Reading
pub mod Visits
pub mod VisitLists
pub mod Demand
pub mod WholeRun
