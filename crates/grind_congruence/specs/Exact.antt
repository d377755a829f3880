-- What a closure at rest knows.
use Rattle.std.specs.Prelude.{ℕ, List, map, ◌++◌, ◌↔◌}
use Rattle.grind_term_graph.specs.declared.node.Node.{Node}
use Rattle.grind_classes.specs.Classes.{IsActive, AreTogether}
use Rattle.grind_congruence.specs.declared.edge.Edge.{Edge}
use Rattle.grind_congruence.specs.Congruence.{Congruence, Fits, IsAtRest}
use Rattle.grind_congruence.specs.Edges.{AreClassesOf}
use Rattle.grind_congruence.specs.Derivable.{Derivable}

-- the equation that an edge says
abbrev pub pair_of : Edge → ℕ × ℕ
pair_of edge = (edge.left, edge.right)

-- two active nodes are together exactly where their equality is derivable from the edges over the active nodes
abbrev pub ClosureIsExact : Congruence → List Node → Type 0
ClosureIsExact closure nodes =
    (a b : ℕ) → IsActive closure.lists a → IsActive closure.lists b
    → AreTogether closure.lists a b ↔ Derivable nodes (map pair_of closure.edges) (IsActive closure.lists) a b

-- the law: what edges make, fits a table and is at rest knows all that is derivable, and nothing else
abbrev pub ExactAtRest : Type 0
ExactAtRest = (closure : Congruence) (nodes : List Node) → AreClassesOf closure.lists closure.edges → Fits closure nodes
    → IsAtRest closure.lists nodes → ClosureIsExact closure nodes

-- the law: what fits a table fits each longer one
abbrev pub FitsLonger : Type 0
FitsLonger = (closure : Congruence) (nodes more : List Node) → Fits closure nodes → Fits closure (nodes ++ more)
