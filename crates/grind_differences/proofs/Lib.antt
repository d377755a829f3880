mod BoundLemmas
mod CutLemmas
mod PolyLemmas
mod FormLemmas
mod ValueLemmas
pub mod HeldLemmas
