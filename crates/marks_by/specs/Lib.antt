pub mod MarksBy
