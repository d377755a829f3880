pub mod ItemLemmas
pub mod SizeLemmas
pub mod SamePatterns
mod AnnotationLaws
