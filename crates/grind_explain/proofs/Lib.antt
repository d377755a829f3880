pub mod NotedLemmas
pub mod ChainLemmas
pub mod KnownLemmas
