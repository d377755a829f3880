-- Marks of nodes, and tables of formulas with a mark for each.
use Rattle.std.specs.Prelude.{◌≡◌, ℕ, ◌<◌, Bool, List, [], Some, length, slice_get}
use Rattle.grind_term_graph.specs.declared.node.Node.{Node}
use Rattle.grind_term_graph.specs.Terms.{prop, sort_at}
use Rattle.grind_truth_prop.specs.declared.types.Known.{Known}

-- so many marks, and that of each node is what the test says of it
pub record AreMarks (marked : ℕ → Bool) (count : ℕ) (marks : List Bool) : Type 0 where
  pub long : length marks ≡ count
  pub each : (n : ℕ) → n < count → slice_get marks n ≡ Some (marked n)

-- each node is a formula
abbrev pub AreFormulas : List Node → Type 0
AreFormulas nodes = (n : ℕ) → n < length nodes → sort_at nodes n ≡ Some prop

-- there is a mark of either kind for each node
abbrev pub HasMarks : Known → Type 0
HasMarks known = (length known.holds ≡ length known.terms.nodes) × (length known.fails ≡ length known.terms.nodes)

-- no pairs are given
abbrev pub HasNoPairs : Known → Type 0
HasNoPairs known = (known.same ≡ []) × (known.apart ≡ [])

-- each node is a formula and has its marks, and no pairs are given
abbrev pub AreMarkedFormulas : Known → Type 0
AreMarkedFormulas known = HasMarks known × HasNoPairs known × AreFormulas known.terms.nodes
