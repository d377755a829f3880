-- Classes of the nodes of a table.
use Rattle.std.specs.Prelude.{◌≡◌, ℕ, ◌<◌, ◌↔◌, List, length}
use Rattle.grind_term_graph.specs.declared.node.Node.{Node}
use Rattle.grind_term_graph.specs.Terms.{sort_at}
use Rattle.grind_classes.specs.Classes.{IsActive, AreTogether}

-- the first nodes are active, so many of them, and each is in a class of its own
pub record AreAlone (lists : List (List ℕ)) (count : ℕ) : Type 0 where
  pub active : (n : ℕ) → IsActive lists n ↔ (n < count)
  pub apart : (a b : ℕ) → AreTogether lists a b → a ≡ b

-- exactly the nodes of the table are active, and the nodes of a class have one sort
pub record AreClassesOf (nodes : List Node) (lists : List (List ℕ)) : Type 0 where
  pub active : (n : ℕ) → IsActive lists n ↔ (n < length nodes)
  pub sorts : (a b : ℕ) → AreTogether lists a b → sort_at nodes a ≡ sort_at nodes b

-- both are nodes of the table, of one sort
abbrev pub AreOfOneSort : List Node → ℕ → ℕ → Type 0
AreOfOneSort nodes a b = (a < length nodes) × (b < length nodes) × (sort_at nodes a ≡ sort_at nodes b)
