pub mod FinishRow
pub mod LeastLaws
pub mod FinishRowLaws
