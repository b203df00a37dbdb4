pub mod Besides
pub mod BesideLaws
