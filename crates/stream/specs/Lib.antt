pub mod Plains
pub mod PlainsLaws
