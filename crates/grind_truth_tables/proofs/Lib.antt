pub mod TruthLemmas
pub mod AssignmentLemmas
pub mod FollowsLemmas
pub mod NeededLemmas
pub mod TableGrowth
