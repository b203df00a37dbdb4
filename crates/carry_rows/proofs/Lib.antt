pub mod CarryRows
pub mod CarryOwnRows
