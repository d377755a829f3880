pub mod MarkLemmas
pub mod ReaderLemmas
pub mod ReadingLemmas
pub mod ValueLemmas
pub mod WalkLemmas
