-- When two schemes are the same, wherever in memory their parts stand.
use Rattle.std.specs.Prelude.{◌≡◌, List, [], ◌∷◌, ⊤}
use Rattle.grind_schemes.specs.declared.scheme.Scheme.{Scheme, Var, Apply', Row_of-Scheme, end_of-Scheme, more_of-Scheme}

-- the first is a copy of the second
abbrev mutual
  pub IsCopy : Scheme → Scheme → Type 0
  IsCopy (Var number) (Var other) = number ≡ other
  IsCopy (Apply' head sort shape args) (Apply' other_head other_sort other_shape others) =
      (head ≡ other_head) × (sort ≡ other_sort) × AreCopiesRow args others
  IsCopy _ _ = ⊥

  pub AreCopiesRow : {m : _} {n : _} → Row_of-Scheme m → Row_of-Scheme n → Type 0
  AreCopiesRow end_of-Scheme end_of-Scheme = ⊤
  AreCopiesRow (more_of-Scheme first rest) (more_of-Scheme other others) = IsCopy first other × AreCopiesRow rest others
  AreCopiesRow _ _ = ⊥

-- the schemes of the first list are copies of those of the second, one by one
abbrev pub AreCopies : List Scheme → List Scheme → Type 0
AreCopies [] [] = ⊤
AreCopies (first ∷ rest) (other ∷ others) = IsCopy first other × AreCopies rest others
AreCopies _ _ = ⊥
