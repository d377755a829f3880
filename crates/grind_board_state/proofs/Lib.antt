mod BeginLemmas
mod StateLemmas
