pub mod LawLemmas
pub mod RisingLemmas
