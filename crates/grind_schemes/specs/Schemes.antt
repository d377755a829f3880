-- Which schemes are well formed over variables of given sorts.
use Rattle.std.specs.Prelude.{◌≡◌, ℕ, ◌<◌, ◌⊎◌, List, [], ◌∷◌, Option, Some, length, slice_get, ⊤}
use Rattle.grind_term_graph.specs.declared.head.Head.TheVariants.{Fun}
use Rattle.grind_term_graph.specs.Shape.{IsShaped}
use Rattle.grind_schemes.specs.declared.scheme.Scheme.{Scheme, Var, Apply', Row_of-Scheme, end_of-Scheme, more_of-Scheme}

-- the sort of a scheme; a variable past the given ones has none
abbrev pub scheme_sort : List ℕ → Scheme → Option ℕ
scheme_sort vars (Var number) = slice_get vars number
scheme_sort vars (Apply' head sort shape args) = Some sort

-- the sorts of a row of schemes
abbrev pub row_sorts : {m : _} → List ℕ → Row_of-Scheme m → List (Option ℕ)
row_sorts vars end_of-Scheme = []
row_sorts vars (more_of-Scheme first rest) = scheme_sort vars first ∷ row_sorts vars rest

-- its variables are among the given ones, and each head has arguments of the sorts that it asks for
abbrev mutual
  pub IsScheme : List ℕ → Scheme → Type 0
  IsScheme vars (Var number) = number < length vars
  IsScheme vars (Apply' head sort shape args) = IsShaped head sort (row_sorts vars args) × AreSchemes vars args

  pub AreSchemes : {m : _} → List ℕ → Row_of-Scheme m → Type 0
  AreSchemes vars end_of-Scheme = ⊤
  AreSchemes vars (more_of-Scheme first rest) = IsScheme vars first × AreSchemes vars rest

-- the variable stands in the scheme
abbrev mutual
  pub HasVar : ℕ → Scheme → Type 0
  HasVar variable (Var number) = number ≡ variable
  HasVar variable (Apply' head sort shape args) = RowHasVar variable args

  pub RowHasVar : {m : _} → ℕ → Row_of-Scheme m → Type 0
  RowHasVar variable end_of-Scheme = ⊥
  RowHasVar variable (more_of-Scheme first rest) = HasVar variable first ⊎ RowHasVar variable rest

-- a declared function at its arguments
abbrev pub IsHeadedByFunction : Scheme → Type 0
IsHeadedByFunction (Var number) = ⊥
IsHeadedByFunction (Apply' head sort shape args) = (function : ℕ) × (head ≡ Fun function)
