pub mod OutsideLemmas
pub mod ShelfLemmas
