-- The words of the rule `table`, for the crates above.
pub use Rattle.grind_truth_tables.specs.Tables.{free_truth, unary_truth, binary_truth, implies, alike, joined_truth, truth_at, node_truth, truths_of, truth_of, literal_truth, conclusion_truth, Follows, IsTableRule}
