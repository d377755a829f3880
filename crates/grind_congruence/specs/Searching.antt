-- What the search looks for.
use Rattle.std.specs.Prelude.{◌≡◌, ℕ, ◌<◌, List, Some, All, length, slice_get}
use Rattle.grind_term_graph.specs.declared.node.Node.{Node}
use Rattle.grind_classes.specs.Classes.{IsActive, AreTogether}
use Rattle.grind_congruence.specs.Congruence.{AreCongruent}

-- the active nodes stand in the table of terms, and the arguments of an active node are active
pub record AreNodesOf (lists : List (List ℕ)) (nodes : List Node) : Type 0 where
  pub within : (n : ℕ) → IsActive lists n → n < length nodes
  pub args : (n : ℕ) (node : Node) → IsActive lists n → slice_get nodes n ≡ Some node → All (IsActive lists) node.args

-- two active nodes that are congruent and not together
abbrev pub IsPair : List (List ℕ) → List Node → ℕ → ℕ → Type 0
IsPair lists nodes a b = IsActive lists a × IsActive lists b × AreCongruent lists nodes a b × ¬ AreTogether lists a b

-- no node makes a pair with this one
abbrev pub HasNoPartner : List (List ℕ) → List Node → ℕ → Type 0
HasNoPartner lists nodes a = (b : ℕ) → ¬ IsPair lists nodes a b
