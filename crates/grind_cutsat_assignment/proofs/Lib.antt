pub mod AtomLemmas
pub mod WalkLemmas
pub mod ReadingLemmas
pub mod DifferLemmas
pub mod CollectLemmas
pub mod AssignLemmas
pub mod UniqueLemmas
pub mod LawLemmas
