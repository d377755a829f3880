-- What holds of all tables of terms.
use Rattle.std.specs.Prelude.{◌≡◌, ◌↔◌, ℕ, List, Some, length, take, slice_get, true}
use Rattle.grind_term_graph.specs.declared.node.Node.{Node}
use Rattle.grind_term_graph.specs.Beginnings.{BeginsWith}
use Rattle.grind_term_graph.specs.Same.{is_same_node}
use Rattle.grind_term_graph.specs.Placed.{placed, IsStored}

-- a table begins with itself
abbrev pub TablesBeginWithThemselves : Type 0
TablesBeginWithThemselves = (nodes : List Node) → BeginsWith nodes nodes

-- where a table begins with a second, and the second with a third, it begins with the third
abbrev pub BeginningsChain : Type 0
BeginningsChain =
    (first second third : List Node) → BeginsWith first second → BeginsWith second third → BeginsWith first third

-- a table begins with another exactly where so many of its first nodes are that other
abbrev pub BeginsByItsFirstNodes : Type 0
BeginsByItsFirstNodes = (front whole : List Node) → BeginsWith front whole ↔ (take (length front) whole ≡ front)

-- where a table grows, each node keeps its number
abbrev pub NodesKeepTheirNumbers : Type 0
NodesKeepTheirNumbers =
    (before after : List Node) (id : ℕ) (node : Node) → BeginsWith before after → slice_get before id ≡ Some node →
    slice_get after id ≡ Some node

-- two nodes are the same exactly where they are equal
abbrev pub SameNodesAreEqual : Type 0
SameNodesAreEqual = (one other : Node) → (is_same_node one other ≡ true) ↔ (one ≡ other)

-- a node that stands in a list stays, at its first number, and a new one goes last
abbrev pub NodesArePlacedOnce : Type 0
NodesArePlacedOnce = (nodes : List Node) (node : Node) → IsStored nodes node (placed nodes node).0 (placed nodes node).1
