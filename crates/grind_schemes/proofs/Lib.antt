pub mod SchemeLemmas
pub mod InstanceLemmas
pub mod FreshLemmas
pub mod InstanceLaws
pub mod InstanceNodeLemmas
