pub mod CarriedRunBy
