pub mod BoundLemmas
pub mod CombineLemmas
