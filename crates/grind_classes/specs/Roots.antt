-- The array of roots that stands beside the classes.
use Rattle.std.specs.Prelude.{◌≡◌, ℕ, List, [], ◌∷◌, Option, Some, None, slice_index_or, slice_set, ◌↔◌}
use Rattle.grind_classes.specs.Classes.{IsIn, IsPartition}

-- the root that is written for node n: none past the end
abbrev pub root_at : List (Option ℕ) → ℕ → Option ℕ
root_at roots n = slice_index_or roots n None

-- the roots once these nodes have this root
abbrev pub repointed : List (Option ℕ) → List ℕ → ℕ → List (Option ℕ)
repointed roots [] root = roots
repointed roots (n ∷ nodes) root = repointed (slice_set roots n (Some root)) nodes root

-- what holds of the lists and the roots beside them
pub record AreTied (lists : List (List ℕ)) (roots : List (Option ℕ)) : Type 0 where
  -- the lists are classes
  pub partition : IsPartition lists
  -- the root that is written for a node is the root of the class that it is in
  pub rooted : (n r : ℕ) → (root_at roots n ≡ Some r) ↔ IsIn lists r n
