pub mod BranchGrowth
pub mod LawLemmas
pub mod LineLemmas
pub mod Ancestors
pub mod PlaceLemmas
pub mod LayoutLemmas
pub mod PairLemmas
pub mod OppositeLemmas
