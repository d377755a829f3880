pub mod LawLemmas
pub mod FactLemmas
pub mod BuildingLemmas
pub mod GivenLemmas
pub mod DecidingLemmas
