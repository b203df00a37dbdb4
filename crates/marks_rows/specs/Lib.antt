pub mod MarksTable
