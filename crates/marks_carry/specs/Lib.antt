pub mod MarksCarry
pub mod MarksCarryLaws
pub mod CarriedRun
pub mod CarriedRunLaws
