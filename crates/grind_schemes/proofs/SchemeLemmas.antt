-- Schemes by the items of their arguments.
use Rattle.std.proofs.Common.{◌≡◌, ◌↔◌, ◌<◌, ◌⊎◌, inl, inr, zero, suc, arith, ℕ, length, slice_index_or, List, [], ◌∷◌, All, Vec, Global, refl, sym, ap, ◌∙◌, subst}
use Rattle.std.specs.Prelude.{map, Any}
use Rattle.std.proofs.lemmas.List.Elements.{All-nil, All-cons, All-head, All-tail}
use mathlib.Core.Former.{Count}
use Rattle.grind_term_graph.specs.declared.head.Head.{Head}
use Rattle.grind_term_graph.specs.Shape.{IsShaped}
use Rattle.grind_schemes.specs.declared.scheme.Scheme.{Scheme, Apply, Apply', Row_of-Scheme, end_of-Scheme, more_of-Scheme, items-the_row-Scheme, items_hidden-the_row-Scheme-0}
use Rattle.grind_schemes.specs.Schemes.{scheme_sort, row_sorts, IsScheme, AreSchemes, HasVar, RowHasVar}

-- the arguments of a scheme
abbrev pub row_of : Scheme → (n : Count) × Row_of-Scheme n
row_of (Apply' head sort shape args) = (_, args)
row_of _ = (_, end_of-Scheme)

module _ (vars : List ℕ) where
  -- the sorts of a row are those of its items
  pub sorts_of_row : (n : _) (row : Row_of-Scheme n) → row_sorts vars row ≡ map (scheme_sort vars) (items-the_row-Scheme n row)
  sorts_of_row n end_of-Scheme = refl
  sorts_of_row n (more_of-Scheme first rest) = ap (λ sorts. scheme_sort vars first ∷ sorts) (sorts_of_row _ rest)

  -- a well-formed row has well-formed items
  pub of_row : (n : _) (row : Row_of-Scheme n) → AreSchemes vars row → All (IsScheme vars) (items-the_row-Scheme n row)
  of_row n end_of-Scheme h = All-nil (IsScheme vars)
  of_row n (more_of-Scheme first rest) h = All-cons (IsScheme vars) first _ h.0 (of_row _ rest h.1)

  -- and a row of well-formed items is well formed
  to_row : (n : _) (row : Row_of-Scheme n) → All (IsScheme vars) (items-the_row-Scheme n row) → AreSchemes vars row
  to_row n end_of-Scheme h = tt
  to_row n (more_of-Scheme first rest) h =
      (All-head (IsScheme vars) first _ h, to_row _ rest (All-tail (IsScheme vars) first _ h))

  -- a head at its arguments is well formed exactly where they are, and it asks for arguments of their sorts
  pub IsScheme-Apply : (head : Head) (sort : ℕ) (args : Vec Scheme Global) →
      IsScheme vars (Apply head sort args) ↔
      (IsShaped head sort (map (scheme_sort vars) args.items) × All (IsScheme vars) args.items)
  IsScheme-Apply head sort args =
      let row = row_of (Apply head sort args) in
      let same = items_hidden-the_row-Scheme-0 args in
      let sorts = sorts_of_row row.0 row.1 ∙ ap (map (scheme_sort vars)) same in (
        λ h. (subst (IsShaped head sort) sorts h.0, subst (All (IsScheme vars)) same (of_row row.0 row.1 h.1)),
        λ h. (subst (IsShaped head sort) (sym sorts) h.0, to_row row.0 row.1 (subst (All (IsScheme vars)) (sym same) h.1)),
      )

module _ {X : Type 0} (P : X → Type 0) where
  -- the first item is some item
  pub any_first : (x : X) (xs : List X) → P x → Any P (x ∷ xs)
  any_first x xs h = (0, x, omega arith, refl, h)

  -- an item of the rest is some item
  pub any_rest : (x : X) (xs : List X) → Any P xs → Any P (x ∷ xs)
  any_rest x xs h = (suc h.0, h.1, omega arith, h.3, h.4)

  -- no item is none
  pub any_none : Any P [] → ⊥
  any_none h = omega (arith, h.2)

  -- some item is the first or one of the rest
  pub any_cases : (x : X) (xs : List X) → Any P (x ∷ xs) → P x ⊎ Any P xs
  any_cases x xs h = cases_at h.0 h.1 h.2 h.3 h.4
    where
      cases_at : (k : ℕ) (y : X) → k < length (x ∷ xs) → slice_index_or (x ∷ xs) k y ≡ y → P y → P x ⊎ Any P xs
      cases_at zero y within e p = inl (subst P (sym e) p)
      cases_at (suc k) y within e p = inr (k, y, omega arith, e, p)

module _ (variable : ℕ) where
  -- a variable of a row stands in one of its items
  var_of_row : (n : _) (row : Row_of-Scheme n) → RowHasVar variable row → Any (HasVar variable) (items-the_row-Scheme n row)
  var_of_row n end_of-Scheme h = absurd h
  var_of_row n (more_of-Scheme first rest) (inl h) = any_first (HasVar variable) first _ h
  var_of_row n (more_of-Scheme first rest) (inr h) = any_rest (HasVar variable) first _ (var_of_row _ rest h)

  -- and a variable of an item stands in the row
  var_to_row : (n : _) (row : Row_of-Scheme n) → Any (HasVar variable) (items-the_row-Scheme n row) → RowHasVar variable row
  var_to_row n end_of-Scheme h = any_none (HasVar variable) h
  var_to_row n (more_of-Scheme first rest) h =
      elim (any_cases (HasVar variable) first _ h) [ inl here ↦ inl here | inr later ↦ inr (var_to_row _ rest later) ]

  -- a variable stands in a head at its arguments exactly where it stands in one of them
  pub HasVar-Apply : (head : Head) (sort : ℕ) (args : Vec Scheme Global) →
      HasVar variable (Apply head sort args) ↔ Any (HasVar variable) args.items
  HasVar-Apply head sort args =
      let row = row_of (Apply head sort args) in
      let same = items_hidden-the_row-Scheme-0 args in (
        λ h. subst (Any (HasVar variable)) same (var_of_row row.0 row.1 h),
        λ h. var_to_row row.0 row.1 (subst (Any (HasVar variable)) (sym same) h),
      )
