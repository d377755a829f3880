pub mod PinchLemmas
pub mod SettleLemmas
