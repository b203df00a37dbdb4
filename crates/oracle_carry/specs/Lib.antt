pub mod CarryTells
