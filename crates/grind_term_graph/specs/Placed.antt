-- Where a node stands in a list of nodes.
use Rattle.std.specs.Prelude.{◌≡◌, ℕ, ◌≤◌, Bool, List, [], ◌∷◌, ◌++◌, if◌then◌else◌, Some, Contains, slice_get}
use Rattle.std.specs.List.{list_any, position_or_len}
use Rattle.grind_term_graph.specs.declared.node.Node.{Node}
use Rattle.grind_term_graph.specs.Same.{is_same_node}
use Rattle.grind_term_graph.specs.contracts.node.NodePartialEq.TheImpl as same

-- the nodes once one stands among them that passes the test, and the position of the first that does: a new node goes last
abbrev pub placed_by : (Node → Bool) → List Node → Node → List Node × ℕ
placed_by test nodes node = (if list_any test nodes then nodes else nodes ++ node ∷ [], position_or_len test nodes)

-- the nodes once this one stands among them, and its position: a new node goes last
abbrev pub placed : List Node → Node → List Node × ℕ
placed nodes node = placed_by (is_same_node node) nodes node

-- a node was put among others and has this number: one that stood there stays, at its first number, and a new one goes last
pub record IsStored (before : List Node) (node : Node) (after : List Node) (id : ℕ) : Type 0 where
  pub stands : slice_get after id ≡ Some node
  pub first : (k : ℕ) → slice_get after k ≡ Some node → id ≤ k
  pub known : Contains before node → after ≡ before
  pub fresh : ¬ Contains before node → after ≡ before ++ node ∷ []

-- whether two nodes are the same to `==`, by which hash tables find them
abbrev pub node_eq : Node → Node → Bool
node_eq = (same.ghosts).eq
