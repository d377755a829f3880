pub mod Scenes
pub mod Formulas
