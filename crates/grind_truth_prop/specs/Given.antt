-- What is given: known truths, pairs of nodes that are claimed to be equal or different, and classes.
use Rattle.std.specs.Prelude.{◌≡◌, ℕ, ◌<◌, ◌⊎◌, Bool, true, false, List, Some, All, length, slice_get}
use Rattle.grind_term_graph.specs.declared.node.Node.{Node}
use Rattle.grind_term_graph.specs.Terms.{prop, sort_at}
use Rattle.grind_classes.specs.Classes.{IsActive, AreTogether}
use Rattle.grind_truth_prop.specs.Kernel.{true_node, false_node}
use Rattle.grind_truth_prop.specs.declared.types.Couple.{Couple}
use Rattle.grind_truth_prop.specs.declared.types.Known.{Known}

-- the two nodes, in this order
abbrev pub couple : ℕ → ℕ → Couple
couple left right = record { left = left; right = right }

-- the list marks the node of that number
abbrev pub Marks : List Bool → ℕ → Type 0
Marks marks n = slice_get marks n ≡ Some true

-- the node is known to hold
abbrev pub KnownToHold : Known → ℕ → Type 0
KnownToHold known n = Marks known.holds n

-- the node is known to fail
abbrev pub KnownToFail : Known → ℕ → Type 0
KnownToFail known n = Marks known.fails n

-- the node is known to have that truth
abbrev pub KnownAs : Known → ℕ → Bool → Type 0
KnownAs known n true = KnownToHold known n
KnownAs known n false = KnownToFail known n

-- the truth of the node is known
abbrev pub IsKnown : Known → ℕ → Type 0
IsKnown known n = KnownToHold known n ⊎ KnownToFail known n

-- the node is active, and its truth is not known
abbrev pub IsUnknown : Known → List (List ℕ) → ℕ → Type 0
IsUnknown known lists n = IsActive lists n × ¬ IsKnown known n

-- the node `True`, or `False`
abbrev pub truth_node : Bool → ℕ
truth_node true = true_node
truth_node false = false_node

-- the two are active and of one sort
pub record ArePaired (known : Known) (lists : List (List ℕ)) (pair : Couple) : Type 0 where
  pub left : IsActive lists pair.left
  pub right : IsActive lists pair.right
  pub sort : sort_at known.terms.nodes pair.left ≡ sort_at known.terms.nodes pair.right

-- what is known fits the classes
pub record Fits (known : Known) (lists : List (List ℕ)) : Type 0 where
  -- the active nodes stand among the terms
  pub within : (n : ℕ) → IsActive lists n → n < length known.terms.nodes
  -- the arguments of an active node are active
  pub args : (n : ℕ) (node : Node) → IsActive lists n → slice_get known.terms.nodes n ≡ Some node → All (IsActive lists) node.args
  -- the nodes of a class have one sort
  pub one_sort : (a b : ℕ) → AreTogether lists a b → sort_at known.terms.nodes a ≡ sort_at known.terms.nodes b
  -- there is a mark for each term
  pub holds_count : length known.holds ≡ length known.terms.nodes
  pub fails_count : length known.fails ≡ length known.terms.nodes
  -- a node whose truth is known is active, and a formula
  pub known_active : (n : ℕ) → IsKnown known n → IsActive lists n
  pub known_formula : (n : ℕ) → IsKnown known n → sort_at known.terms.nodes n ≡ Some prop
  -- the pairs are of active nodes of one sort
  pub same_paired : All (ArePaired known lists) known.same
  pub apart_paired : All (ArePaired known lists) known.apart
