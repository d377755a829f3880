pub mod ListLemmas
pub mod LineLemmas
pub mod ClosingLemmas
pub mod PlaceLemmas
pub mod FinishLemmas
pub mod LeafLemmas
pub mod PairLemmas
