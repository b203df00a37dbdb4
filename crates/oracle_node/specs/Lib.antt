pub mod NodeTells
