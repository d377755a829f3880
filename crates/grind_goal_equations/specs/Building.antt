-- What is kept while a closure is built, and what it is then.
use Rattle.std.specs.Prelude.{ℕ, ◌≡◌, suc, ◌<◌, Bool, true, false, List, [], ◌∷◌, Some, Contains, length, slice_get, ◌⊎◌}
use Rattle.grind_term_graph.specs.declared.node.Node.{Node}
use Rattle.grind_classes.specs.Classes.{IsActive, AreTogether}
use Rattle.grind_congruence.specs.declared.edge.Edge.{Edge}
use Rattle.grind_congruence.specs.Congruence.{Congruence, Fits, IsAtRest}
use Rattle.grind_needed_edges.specs.Needed.{AreJoinedWithin}

-- the edge at that place is a given one, or a congruence by the edges before it, whose number is 0
abbrev pub IsFounded : List Node → List Edge → List Edge → ℕ → Edge → Type 0
IsFounded nodes given edges place edge =
    Contains given edge ⊎ ((edge.why ≡ 0) × AreJoinedWithin nodes edges place edge.left edge.right)

-- each edge is
abbrev pub AreFounded : List Node → List Edge → List Edge → Type 0
AreFounded nodes given edges = (place : ℕ) (edge : Edge) → slice_get edges place ≡ Some edge → IsFounded nodes given edges place edge

-- the ends of the edge are nodes of the table
abbrev pub HasEnds : List Node → Edge → Type 0
HasEnds nodes edge = (edge.left < length nodes) × (edge.right < length nodes)

-- a closure over all nodes of a table, whose edges are given ones and congruences
pub record IsBuilt (nodes : List Node) (given : List Edge) (closure : Congruence) : Type 0 where
  pub fits : Fits closure nodes
  pub active : (n : ℕ) → n < length nodes → IsActive closure.lists n
  pub founded : AreFounded nodes given closure.edges

-- who is together stays together
pub record KeepsTogether (old new : Congruence) : Type 0 where
  pub stays : (a b : ℕ) → AreTogether old.lists a b → AreTogether new.lists a b

-- the ends of the edge are together
pub record IsAsserted (closure : Congruence) (edge : Edge) : Type 0 where
  pub ends : AreTogether closure.lists edge.left edge.right

-- those of each given edge are
pub record AreAsserted (given : List Edge) (closure : Congruence) : Type 0 where
  pub each : (edge : Edge) → Contains given edge → IsAsserted closure edge

-- how many lists have members
abbrev pub class_count : List (List ℕ) → ℕ
class_count [] = 0
class_count ([] ∷ lists) = class_count lists
class_count ((n ∷ members) ∷ lists) = suc (class_count lists)

-- the closure is at rest
pub record HasRest (nodes : List Node) (closure : Congruence) : Type 0 where
  pub rest : IsAtRest closure.lists nodes

-- what one more edge makes of a closure: it is built from the same given edges, with fewer classes
pub record IsOneMore (nodes : List Node) (given : List Edge) (old new : Congruence) (a b : ℕ) : Type 0 where
  pub built : IsBuilt nodes given new
  pub keeps : KeepsTogether old new
  pub asserted : AreTogether new.lists a b
  pub fewer : class_count new.lists < class_count old.lists

-- a step was made: there are fewer classes. Or there was none to make
abbrev pub IsStepped : List Node → List Edge → Congruence → Congruence → Bool → Type 0
IsStepped nodes given old new true =
    IsBuilt nodes given new × KeepsTogether old new × (class_count new.lists < class_count old.lists)
IsStepped nodes given old new false = IsBuilt nodes given new × KeepsTogether old new × HasRest nodes new

-- what the activation of the first nodes keeps
pub record IsActiveBelow (nodes : List Node) (closure : Congruence) (bound : ℕ) : Type 0 where
  pub fits : Fits closure nodes
  pub active : (n : ℕ) → n < bound → IsActive closure.lists n
  pub only : (n : ℕ) → IsActive closure.lists n → n < bound
  pub edges : closure.edges ≡ []

-- what the assertion of given edges keeps
pub record IsAsserting (nodes : List Node) (given rest : List Edge) (closure : Congruence) : Type 0 where
  pub built : IsBuilt nodes given closure
  pub asserted : (edge : Edge) → Contains given edge → IsAsserted closure edge ⊎ Contains rest edge
  pub among : (edge : Edge) → Contains rest edge → Contains given edge

-- a closure that knows the given edges, and all that follows by congruence
pub record IsClosure (nodes : List Node) (given : List Edge) (closure : Congruence) : Type 0 where
  pub built : IsBuilt nodes given closure
  pub asserted : AreAsserted given closure
  pub rest : HasRest nodes closure
