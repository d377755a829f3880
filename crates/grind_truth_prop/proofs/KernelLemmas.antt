-- What the kernel knows of the truths of nodes, and the words in which it says so. They stand here alone.
pub use Rattle.grind_truth_tables.specs.Tables.{free_truth, joined_truth, truth_at, node_truth, truths_of, truth_of, literal_truth, conclusion_truth, Follows, IsTableRule}
pub use Rattle.grind_truth_tables.proofs.TruthLemmas.{first_truths_agree, truths_next}
