pub mod BoundLemmas
pub mod PairLemmas
pub mod JoinLemmas
pub mod PlanLemmas
