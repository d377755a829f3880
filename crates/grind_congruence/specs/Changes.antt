-- What changes classes together with what has to be looked at then.
use Rattle.std.specs.Prelude.{◌≡◌, ℕ, List, ◌↔◌, ◌⊎◌}
use Rattle.grind_term_graph.specs.declared.node.Node.{Node}
use Rattle.grind_classes.specs.Classes.{Grouping, IsIn, IsActive, AreTogether, IsPartition, IsMerge, AreMergedAt, with_class}
use Rattle.grind_congruence.specs.Table.{AgendaData, IsTakenIn, IsTouched, AreMoved}

-- node n became a class of its own and was taken in
pub record IsEnlisted (old : Grouping) (agenda : AgendaData) (n : ℕ) (node : Node) (new : Grouping) (later : AgendaData) : Type 0 where
  pub own : new.lists ≡ with_class old.lists n
  pub active : (x : ℕ) → IsActive new.lists x ↔ (IsActive old.lists x ⊎ (x ≡ n))
  pub together : (x y : ℕ) → AreTogether new.lists x y ↔ (AreTogether old.lists x y ⊎ ((x ≡ n) × (y ≡ n)))
  pub partition : IsPartition new.lists
  pub marked : new.marked ≡ old.marked
  pub taken : IsTakenIn agenda n node later

-- the classes of a and b are one, and what has an argument that moved has to be looked at
pub record IsMerged (old : Grouping) (agenda : AgendaData) (a b : ℕ) (new : Grouping) (later : AgendaData) : Type 0 where
  pub merged : (ra rb : ℕ) → IsIn old.lists ra a → IsIn old.lists rb b
      → (root : ℕ) × (moved : ℕ) × IsMerge old.lists ra rb new.lists root moved
  pub together : (x y : ℕ) → AreMergedAt old.lists a b new.lists x y
  pub active : (x : ℕ) → IsActive new.lists x ↔ IsActive old.lists x
  pub partition : IsPartition new.lists
  pub marked : new.marked ≡ old.marked
  pub members : List ℕ
  pub moves : AreMoved old.lists a b members
  pub touched : IsTouched agenda members later
