pub mod CarriedRunByLaws
