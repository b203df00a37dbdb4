pub mod MarksCarryRows
