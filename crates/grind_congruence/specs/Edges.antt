-- Ways along edges.
use Rattle.std.specs.Prelude.{◌≡◌, ℕ, List, [], ◌∷◌, Some, All, length, slice_get, take, ◌⊎◌, ◌↔◌}
use Rattle.grind_classes.specs.Classes.{IsActive, AreTogether, IsPartition}
use Rattle.grind_congruence.specs.declared.edge.Edge.{Edge}

-- the edge goes from a to b, in either direction
abbrev pub Passes : Edge → ℕ → ℕ → Type 0
Passes edge a b = ((edge.left ≡ a) × (edge.right ≡ b)) ⊎ ((edge.right ≡ a) × (edge.left ≡ b))

-- the edges at these places lead from a to b, in this order
abbrev pub Leads : List Edge → List ℕ → ℕ → ℕ → Type 0
Leads edges [] a b = a ≡ b
Leads edges (place ∷ places) a b =
    (edge : Edge) × (mid : ℕ) × (slice_get edges place ≡ Some edge) × Passes edge a mid × Leads edges places mid b

-- the first k edges lead from a to b
abbrev pub Joins : List Edge → ℕ → ℕ → ℕ → Type 0
Joins edges k a b = (places : List ℕ) × Leads (take k edges) places a b

-- the lists are the classes that the edges make
pub record AreClassesOf (lists : List (List ℕ)) (edges : List Edge) : Type 0 where
  -- they are classes
  pub partition : IsPartition lists
  -- the edges go between active nodes
  pub ends : All (λ edge. IsActive lists edge.left × IsActive lists edge.right) edges
  -- two active nodes are together exactly where edges lead from one to the other
  pub led : (a b : ℕ) → IsActive lists a → IsActive lists b → AreTogether lists a b ↔ Joins edges (length edges) a b
