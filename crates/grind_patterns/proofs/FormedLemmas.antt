-- What is chosen from a well-formed body is well formed.
use Rattle.std.proofs.Common.{◌≡◌, ◌⊎◌, inl, inr, ℕ, ◌<◌, List, [], ◌∷◌, ◌++◌, Option, Some, None, All, length, refl, sym, ap, subst}
use Rattle.std.specs.Prelude.{IfSome, slice_get}
use Rattle.std.proofs.lemmas.List.Elements.{All-nil, All-cons, All-head, All-tail}
use Rattle.grind_term_graph.specs.declared.head.Head.{Head}
use Rattle.grind_term_graph.specs.declared.head.Head.TheVariants.{Implies}
use Rattle.grind_term_graph.specs.Shape.{IsShaped}
use Rattle.grind_schemes.specs.declared.scheme.Scheme.{Scheme, Var, Apply', Row_of-Scheme, end_of-Scheme, more_of-Scheme, items-the_row-Scheme}
use Rattle.grind_schemes.specs.Schemes.{scheme_sort, row_sorts, IsScheme, AreSchemes}
use Rattle.grind_patterns.specs.declared.kind.Kind.{Kind}
use Rattle.grind_patterns.specs.declared.kind.Kind.TheVariants.{Left, Right, Hyps, Concl, Written}
use Rattle.grind_patterns.specs.Copies.{IsCopy, AreCopies, AreCopiesRow}
use Rattle.grind_patterns.specs.Patterns.{Walks, WalksRow, WalksEach, if_implication, hypotheses_of, hypotheses_of_row, conclusion_or, conclusion_of, conclusion_of_row, IsEquation, HasUncovered, Chooses, IsFormedKind, PatternsOf}
use Rattle.grind_patterns.proofs.WalkLemmas.{AreCopies-sym}

module _ (vars : List ℕ) where
  if_formed : (head : Head) (xs : List Scheme) → All (IsScheme vars) xs → All (IsScheme vars) (if_implication head xs)
  if_formed Implies xs h = h
  if_formed _ xs h = All-nil (IsScheme vars)

  -- hypotheses of a well-formed formula are well formed
  mutual
    hyps_formed : (s : Scheme) → IsScheme vars s → All (IsScheme vars) (hypotheses_of s)
    hyps_formed (Var number) h = All-nil (IsScheme vars)
    hyps_formed (Apply' head sort shape args) h = if_formed head (hypotheses_of_row args) (hyps_formed_row _ args h.1)

    hyps_formed_row : (n : _) (row : Row_of-Scheme n) → AreSchemes vars row → All (IsScheme vars) (hypotheses_of_row row)
    hyps_formed_row n end_of-Scheme h = All-nil (IsScheme vars)
    hyps_formed_row n (more_of-Scheme a end_of-Scheme) h = All-nil (IsScheme vars)
    hyps_formed_row n (more_of-Scheme a (more_of-Scheme b end_of-Scheme)) h =
        All-cons (IsScheme vars) a (hypotheses_of b) h.0 (hyps_formed b h.1.0)
    hyps_formed_row n (more_of-Scheme a (more_of-Scheme b (more_of-Scheme c rest))) h = All-nil (IsScheme vars)

  or_formed : (head : Head) (o : Option Scheme) (whole : Scheme) → IfSome o (IsScheme vars) → IsScheme vars whole
      → IsScheme vars (conclusion_or head o whole)
  or_formed Implies (Some behind) whole h k = h
  or_formed Implies None whole h k = k
  or_formed _ (Some behind) whole h k = k
  or_formed _ None whole h k = k

  -- and so is its conclusion
  mutual
    conclusion_formed : (s : Scheme) → IsScheme vars s → IsScheme vars (conclusion_of s)
    conclusion_formed (Var number) h = h
    conclusion_formed (Apply' head sort shape args) h =
        or_formed head (conclusion_of_row args) (Apply' head sort shape args) (conclusion_formed_row _ args h.1) h

    conclusion_formed_row : (n : _) (row : Row_of-Scheme n) → AreSchemes vars row
        → IfSome (conclusion_of_row row) (IsScheme vars)
    conclusion_formed_row n end_of-Scheme h = tt
    conclusion_formed_row n (more_of-Scheme a end_of-Scheme) h = tt
    conclusion_formed_row n (more_of-Scheme a (more_of-Scheme b end_of-Scheme)) h = conclusion_formed b h.1.0
    conclusion_formed_row n (more_of-Scheme a (more_of-Scheme b (more_of-Scheme c rest))) h = tt

  snoc : (xs : List Scheme) (x : Scheme) → All (IsScheme vars) xs → IsScheme vars x → All (IsScheme vars) (xs ++ x ∷ [])
  snoc [] x h k = All-cons (IsScheme vars) x [] k (All-nil (IsScheme vars))
  snoc (y ∷ ys) x h k =
      All-cons (IsScheme vars) y (ys ++ x ∷ []) (All-head (IsScheme vars) y ys h)
      (snoc ys x (All-tail (IsScheme vars) y ys h) k)

  takes_formed : (before : List Scheme) (term : Scheme) (after : List Scheme) → All (IsScheme vars) before → IsScheme vars term
      → (HasUncovered before term × (after ≡ before ++ term ∷ [])) ⊎ (¬ HasUncovered before term × (after ≡ before))
      → All (IsScheme vars) after
  takes_formed before term after h k (inl t) = subst (All (IsScheme vars)) (sym t.1) (snoc before term h k)
  takes_formed before term after h k (inr t) = subst (All (IsScheme vars)) (sym t.1) h

  -- a walk takes what is well formed
  mutual
    walk_formed : (s : Scheme) (before after : List Scheme) → All (IsScheme vars) before → IsScheme vars s
        → Walks before s after → All (IsScheme vars) after
    walk_formed (Var number) before after h k w = subst (All (IsScheme vars)) (sym w) h
    walk_formed (Apply' head sort shape args) before after h k (inl w) =
        takes_formed before (Apply' head sort shape args) after h k w.1
    walk_formed (Apply' head sort shape args) before after h k (inr w) = walk_formed_row _ args before after h k.1 w.1

    walk_formed_row : (n : _) (row : Row_of-Scheme n) (before after : List Scheme) → All (IsScheme vars) before
        → AreSchemes vars row → WalksRow before row after → All (IsScheme vars) after
    walk_formed_row n end_of-Scheme before after h k w = subst (All (IsScheme vars)) (sym w) h
    walk_formed_row n (more_of-Scheme first rest) before after h k w =
        walk_formed_row _ rest w.0 after (walk_formed first before w.0 h k.0 w.1) k.1 w.2

  walk_formed_each : (schemes before after : List Scheme) → All (IsScheme vars) before → All (IsScheme vars) schemes
      → WalksEach before schemes after → All (IsScheme vars) after
  walk_formed_each [] before after h k w = subst (All (IsScheme vars)) (sym w) h
  walk_formed_each (first ∷ rest) before after h k w =
      walk_formed_each rest w.0 after (walk_formed first before w.0 h (All-head (IsScheme vars) first rest k) w.1)
      (All-tail (IsScheme vars) first rest k) w.2

  items_formed : (n : _) (row : Row_of-Scheme n) → AreSchemes vars row → All (IsScheme vars) (items-the_row-Scheme n row)
  items_formed n end_of-Scheme h = All-nil (IsScheme vars)
  items_formed n (more_of-Scheme first rest) h = All-cons (IsScheme vars) first _ h.0 (items_formed _ rest h.1)

  -- the sides of a well-formed equation are well formed
  sides_formed : (s l r : Scheme) → IsScheme vars s → IsEquation l r s → All (IsScheme vars) (l ∷ r ∷ [])
  sides_formed (Var number) l r h k = absurd k
  sides_formed (Apply' head sort shape args) l r h k = subst (All (IsScheme vars)) k.1 (items_formed _ args h.1)

  alone : (x : Scheme) (chosen : List Scheme) → IsScheme vars x → chosen ≡ x ∷ [] → All (IsScheme vars) chosen
  alone x chosen h e = subst (All (IsScheme vars)) (sym e) (All-cons (IsScheme vars) x [] h (All-nil (IsScheme vars)))

  chosen_formed : (body : Scheme) (kind : Kind) (chosen : List Scheme) → IsScheme vars body → IsFormedKind vars kind
      → Chooses body kind chosen → All (IsScheme vars) chosen
  chosen_formed body Left chosen h k c =
      alone c.0 chosen (All-head (IsScheme vars) c.0 (c.1 ∷ []) (sides_formed (conclusion_of body) c.0 c.1 (conclusion_formed body h) c.2)) c.3
  chosen_formed body Right chosen h k c =
      let sides = sides_formed (conclusion_of body) c.0 c.1 (conclusion_formed body h) c.2 in
      alone c.1 chosen (All-head (IsScheme vars) c.1 [] (All-tail (IsScheme vars) c.0 (c.1 ∷ []) sides)) c.3
  chosen_formed body Hyps chosen h k c =
      walk_formed_each (hypotheses_of body) [] chosen (All-nil (IsScheme vars)) (hyps_formed body h) c.1
  chosen_formed body Concl chosen h k c =
      walk_formed (conclusion_of body) [] chosen (All-nil (IsScheme vars)) (conclusion_formed body h) c
  chosen_formed body (Written terms) chosen h k c = subst (All (IsScheme vars)) (sym c) k

  -- a copy has the same sort
  sort_copy : (a b : Scheme) → IsCopy a b → scheme_sort vars a ≡ scheme_sort vars b
  sort_copy (Var number) (Var other) c = ap (slice_get vars) c
  sort_copy (Var number) (Apply' head sort shape args) c = absurd c
  sort_copy (Apply' head sort shape args) (Var other) c = absurd c
  sort_copy (Apply' head sort shape args) (Apply' other_head other_sort other_shape others) c = ap Some c.1

  conses : (a b : Option ℕ) (xs ys : List (Option ℕ)) → a ≡ b → xs ≡ ys → a ∷ xs ≡ b ∷ ys
  conses a b xs ys e f = cc

  sorts_copy : (m : _) (row : Row_of-Scheme m) (n : _) (other : Row_of-Scheme n) → AreCopiesRow row other
      → row_sorts vars row ≡ row_sorts vars other
  sorts_copy m end_of-Scheme n end_of-Scheme c = refl
  sorts_copy m end_of-Scheme n (more_of-Scheme first rest) c = absurd c
  sorts_copy m (more_of-Scheme first rest) n end_of-Scheme c = absurd c
  sorts_copy m (more_of-Scheme first rest) n (more_of-Scheme other others) c =
      conses (scheme_sort vars first) (scheme_sort vars other) (row_sorts vars rest) (row_sorts vars others)
      (sort_copy first other c.0) (sorts_copy _ rest _ others c.1)

  shaped_copy : (head other : Head) (sort same : ℕ) (xs ys : List (Option ℕ)) → head ≡ other → sort ≡ same → xs ≡ ys
      → IsShaped head sort xs → IsShaped other same ys
  shaped_copy head other sort same xs ys e f g h =
      subst (IsShaped other same) g
      (subst (λ (s : ℕ). IsShaped other s xs) f (subst (λ (k : Head). IsShaped k sort xs) e h))

  -- and is well formed where the other is
  mutual
    formed_copy : (a b : Scheme) → IsCopy a b → IsScheme vars a → IsScheme vars b
    formed_copy (Var number) (Var other) c h = subst (λ (n : ℕ). n < length vars) c h
    formed_copy (Var number) (Apply' head sort shape args) c h = absurd c
    formed_copy (Apply' head sort shape args) (Var other) c h = absurd c
    formed_copy (Apply' head sort shape args) (Apply' other_head other_sort other_shape others) c h = (
      shaped_copy head other_head sort other_sort (row_sorts vars args) (row_sorts vars others) c.0 c.1
          (sorts_copy _ args _ others c.2) h.0,
      formed_copy_row _ args _ others c.2 h.1,
    )

    formed_copy_row : (m : _) (row : Row_of-Scheme m) (n : _) (other : Row_of-Scheme n) → AreCopiesRow row other
        → AreSchemes vars row → AreSchemes vars other
    formed_copy_row m end_of-Scheme n end_of-Scheme c h = tt
    formed_copy_row m end_of-Scheme n (more_of-Scheme first rest) c h = absurd c
    formed_copy_row m (more_of-Scheme first rest) n end_of-Scheme c h = absurd c
    formed_copy_row m (more_of-Scheme first rest) n (more_of-Scheme other others) c h =
        (formed_copy first other c.0 h.0, formed_copy_row _ rest _ others c.1 h.1)

  formed_copies : (xs ys : List Scheme) → AreCopies xs ys → All (IsScheme vars) xs → All (IsScheme vars) ys
  formed_copies [] [] c h = All-nil (IsScheme vars)
  formed_copies [] (y ∷ ys) c h = absurd c
  formed_copies (x ∷ xs) [] c h = absurd c
  formed_copies (x ∷ xs) (y ∷ ys) c h =
      All-cons (IsScheme vars) y ys (formed_copy x y c.0 (All-head (IsScheme vars) x xs h))
      (formed_copies xs ys c.1 (All-tail (IsScheme vars) x xs h))

  -- patterns of a well-formed body are well formed
  pub patterns_formed : (body : Scheme) (kind : Kind) (patterns : List Scheme) → PatternsOf vars body kind patterns
      → IsScheme vars body → IsFormedKind vars kind → All (IsScheme vars) patterns
  patterns_formed body kind patterns p h k =
      formed_copies p.0 patterns (AreCopies-sym patterns p.0 p.2) (chosen_formed body kind p.0 h k p.1.chooses)
