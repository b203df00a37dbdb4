-- The laws of the conversion, one file for each definition or for what is shown of several.
pub mod MirrorLaws
pub mod LayLaws
pub mod StandingLaws
pub mod ConvertedLaws
pub mod AdmittedLaws
pub mod MovedLaws
