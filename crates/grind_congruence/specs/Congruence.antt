-- What a contract sees of a closure under congruence, and when it is at rest.
use Rattle.std.specs.Prelude.{◌≡◌, ℕ, ◌<◌, List, [], Some, All, length, slice_get}
use Rattle.std.specs.List.{AllZip}
use Rattle.grind_term_graph.specs.declared.node.Node.{Node}
use Rattle.grind_classes.specs.Classes.{IsActive, AreTogether}
use Rattle.grind_congruence.specs.declared.application.Application.{Application}
use Rattle.grind_congruence.specs.declared.edge.Edge.{Edge}
use Rattle.grind_congruence.specs.declared.view.ClosureView.{ClosureView}

-- a closure: the member lists of its classes, by root; the edges that it keeps, in the order in which they came; the
-- congruence table, keys of a head, a sort and the roots of arguments, each with a node, in the order in which they were
-- entered; the active nodes with arguments, in the order in which they became active; and what it was at each mark in force
pub record Congruence : Type 0 where
  pub lists : List (List ℕ)
  pub edges : List Edge
  pub table : List (Node × ℕ)
  pub applications : List Application
  pub marked : List ClosureView

-- two nodes of one head and one sort, with arguments that are together one by one
pub record AreCongruent (lists : List (List ℕ)) (nodes : List Node) (a b : ℕ) : Type 0 where
  pub left : Node
  pub right : Node
  pub left_is : slice_get nodes a ≡ Some left
  pub right_is : slice_get nodes b ≡ Some right
  pub head : left.head ≡ right.head
  pub sort : left.sort ≡ right.sort
  pub has_args : ¬ (left.args ≡ [])
  pub args : AllZip (AreTogether lists) left.args right.args

-- a node of this number and this term, which has arguments
abbrev pub application_of : ℕ → Node → Application
application_of n term = record { node = n; term = term }

-- the active nodes stand in the table of terms, the arguments of an active node are active, and what the closure keeps of its
-- nodes is what the table says of them
pub record Fits (closure : Congruence) (nodes : List Node) : Type 0 where
  pub within : (n : ℕ) → IsActive closure.lists n → n < length nodes
  pub args : (n : ℕ) (node : Node) → IsActive closure.lists n → slice_get nodes n ≡ Some node → All (IsActive closure.lists) node.args
  pub same : (place : ℕ) (it : Application) → slice_get closure.applications place ≡ Some it → slice_get nodes it.node ≡ Some it.term
  pub each : (n : ℕ) (node : Node) → IsActive closure.lists n → slice_get nodes n ≡ Some node → ¬ (node.args ≡ [])
      → (place : ℕ) × (slice_get closure.applications place ≡ Some (application_of n node))

-- active nodes that are congruent are together
abbrev pub IsAtRest : List (List ℕ) → List Node → Type 0
IsAtRest lists nodes = (a b : ℕ) → IsActive lists a → IsActive lists b → AreCongruent lists nodes a b → AreTogether lists a b

-- the closure fits every table
abbrev pub FitsEvery : Congruence → Type 0
FitsEvery closure = (nodes : List Node) → Fits closure nodes
