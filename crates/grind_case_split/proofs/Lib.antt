pub mod RefutationLemmas
