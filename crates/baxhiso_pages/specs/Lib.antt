pub mod CPages
pub mod CPagesLaws
