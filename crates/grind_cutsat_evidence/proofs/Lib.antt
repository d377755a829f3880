pub mod UnreadLemmas
pub mod PairLemmas
pub mod LeftLemmas
