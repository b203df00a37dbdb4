pub mod Exports
pub mod ExportsLaws
pub mod ResultLaws
