-- Respecting, node by node: what node n has to keep, where the nodes before it do.
use Rattle.std.specs.Prelude.{◌≡◌, ℕ, ◌<◌, List, Some, map, slice_get, ℤ}
use Rattle.std.specs.Option.{IsSomeAnd}
use Rattle.grind_term_graph.specs.declared.head.Head.{Head}
use Rattle.grind_term_graph.specs.declared.head.Head.TheVariants as head
use Rattle.grind_term_graph.specs.declared.node.Node.{Node}
use Rattle.grind_term_graph.specs.Terms.{prop}
use Rattle.grind_value_tables.specs.Respects.{Means, IsTruthValue, AreOneApplication}
use Rattle.grind_value_tables.specs.Overflows.{AsksTooMuch}

-- the two heads are one function
abbrev pub AreOneFunction : Head → Head → Type 0
AreOneFunction first second = (function : ℕ) × (first ≡ head.Fun function) × (second ≡ head.Fun function)

-- where node m applies the same function to the same values it has this value
abbrev pub AgreesAt : List Node → (ℕ → ℤ) → ℕ → Node → ℤ → Type 0
AgreesAt nodes v m node value = (first : Node) → slice_get nodes m ≡ Some first → AreOneApplication v first node → v m ≡ value

-- among the first nodes, so many of them, an application of the same function to the same values has this value
abbrev pub AgreesBefore : List Node → (ℕ → ℤ) → ℕ → Node → ℤ → Type 0
AgreesBefore nodes v count node value =
    (m : ℕ) → m < count → AgreesAt nodes v m node value

-- the node, of number n, has a value that its head, its sort and the nodes before it allow
pub record Keeps (nodes : List Node) (v : ℕ → ℤ) (n : ℕ) (node : Node) : Type 0 where
  pub head : Means node.head (map v node.args) (v n)
  pub formula : node.sort ≡ prop → IsTruthValue (v n)
  pub agrees : AgreesBefore nodes v n node (v n)

-- there is a node n, and it keeps that
abbrev pub KeepsAt : List Node → (ℕ → ℤ) → ℕ → Type 0
KeepsAt nodes v n = IsSomeAnd (slice_get nodes n) (Keeps nodes v n)

-- there is a node n, and it asks for a value that does not fit
abbrev pub AsksTooMuchAt : List Node → (ℕ → ℤ) → ℕ → Type 0
AsksTooMuchAt nodes v n = IsSomeAnd (slice_get nodes n) (λ (node : Node). AsksTooMuch node.head (map v node.args))
