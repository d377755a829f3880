-- What an equation between two classes changes, and what a node that becomes active does.
use Rattle.std.specs.Prelude.{◌≡◌, ℕ, List, [], ◌∷◌, ◌++◌, Some, slice_get, ◌↔◌}
use Rattle.grind_term_graph.specs.declared.node.Node.{Node}
use Rattle.grind_classes.specs.Classes.{IsIn, IsActive, IsMerge, AreMergedAt}
use Rattle.grind_congruence.specs.Congruence.{Congruence, application_of}

-- the classes of a and b are one, and the edge between them is kept after the others
pub record IsJoined (old new : Congruence) (a b why : ℕ) : Type 0 where
  -- the lists are those of a merge of the two classes
  pub merged : (ra rb : ℕ) → IsIn old.lists ra a → IsIn old.lists rb b
      → (root : ℕ) × (moved : ℕ) × IsMerge old.lists ra rb new.lists root moved
  -- who are together then
  pub together : (x y : ℕ) → AreMergedAt old.lists a b new.lists x y
  -- the active nodes are the same
  pub active : (x : ℕ) → IsActive new.lists x ↔ IsActive old.lists x
  -- the edge has the nodes in this order
  pub edges : new.edges ≡ old.edges ++ record { left = a; right = b; why = why } ∷ []
  -- the table is the same, and so are the nodes with arguments
  pub table : new.table ≡ old.table
  pub applications : new.applications ≡ old.applications

-- node n goes last among the active nodes with arguments, where it has any
pub record IsActivated (old new : Congruence) (nodes : List Node) (n : ℕ) : Type 0 where
  pub plain : (node : Node) → slice_get nodes n ≡ Some node → node.args ≡ [] → new.applications ≡ old.applications
  pub applied : (node : Node) → slice_get nodes n ≡ Some node → ¬ (node.args ≡ [])
      → new.applications ≡ old.applications ++ application_of n node ∷ []
