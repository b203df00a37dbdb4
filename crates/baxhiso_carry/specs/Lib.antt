pub mod CarryArrays
