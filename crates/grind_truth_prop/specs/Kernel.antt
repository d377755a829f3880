-- The words of the kernel on which the units and the laws of this crate rest: what a claim is, and what the rules `untruth`,
-- `eq`, `back`, `apart` and `table` allow from premises. They stand here alone.
use Rattle.std.specs.Prelude.{ℕ, List}
use Rattle.grind_term_graph.specs.declared.node.Node.{Node}
pub use Rattle.grind_claims.specs.declared.claim.Claim.{Claim}
pub use Rattle.grind_claims.specs.declared.claim.Claim.TheVariants.{Holds, Fails, Same, Differ, AtMost, Zero, Absurd}
pub use Rattle.grind_claims.specs.Claims.{IsFormed}
pub use Rattle.grind_term_rules.specs.TermRules.{IsEquation, true_node, false_node}
pub use Rattle.grind_truth_tables.specs.Tables.{joined_truth, implies, alike}
use Rattle.grind_term_rules.specs.TermRules.{IsUntruth, IsEq, IsBack}
use Rattle.grind_arithmetic_rules.specs.LinearRules.{IsApart}
use Rattle.grind_truth_tables.specs.Tables.{IsTableRule}

-- the rule `untruth` allows this claim from these premises
abbrev pub SaysUntruth : List Claim → Claim → Type 0
SaysUntruth premises claim = IsUntruth premises claim

-- the rule `eq`
abbrev pub SaysEq : List Node → List Claim → Claim → Type 0
SaysEq nodes premises claim = IsEq nodes premises claim

-- the rule `back`
abbrev pub SaysBack : List Node → List Claim → Claim → Type 0
SaysBack nodes premises claim = IsBack nodes premises claim

-- the rule `apart`
abbrev pub SaysApart : List Node → List Claim → Claim → Type 0
SaysApart nodes premises claim = IsApart nodes premises claim

-- the rule `table`, with these free nodes
abbrev pub SaysTable : List Node → List ℕ → List Claim → Claim → Type 0
SaysTable nodes free premises claim = IsTableRule nodes free premises claim
