pub mod PairLemmas
pub mod ShareLemmas
pub mod MultipleLemmas
pub mod LineLemmas
pub mod StayLemmas
pub mod TypedLemmas
