-- What holds of the rule `table`.
use Rattle.std.specs.Prelude.{ℕ, List, ◌++◌}
use Rattle.grind_term_graph.specs.declared.node.Node.{Node}
use Rattle.grind_claims.specs.declared.claim.Claim.{Claim}
use Rattle.grind_truth_tables.specs.Tables.{IsTableRule}

-- what the rule allows it allows where terms are appended to the others, too
abbrev pub TablesStay : Type 0
TablesStay = (nodes more : List Node) (free : List ℕ) (premises : List Claim) (claim : Claim) →
    IsTableRule nodes free premises claim → IsTableRule (nodes ++ more) free premises claim
