pub mod Cards
pub mod CardsLaws
pub mod RoundLaws
pub mod StepLaws
