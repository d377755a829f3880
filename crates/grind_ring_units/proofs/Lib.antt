pub mod ListLemmas
pub mod FindingLemmas
pub mod MarkLemmas
pub mod ReadingLemmas
pub mod EqualLemmas
pub mod ZeroedLemmas
pub mod ConflictLemmas
pub mod AgendaLemmas
