pub mod StartedCards
