pub mod BlockLemmas
pub mod FormLemmas
pub mod StateLemmas
pub mod EqualLemmas
pub mod TypedLemmas
pub mod RestLemmas
pub mod AgendaLemmas
