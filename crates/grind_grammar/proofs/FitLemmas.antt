-- Terms and declarations that are no deeper than the limit.
use Rattle.std.proofs.Common.{◌≡◌, ℕ, ◌+◌, ◌≤◌, ◌⊎◌, inl, inr, Bool, true, false, List, [], ◌∷◌, Option, Some, None, refl, All, arith, leb-true, leb-false}
use Rattle.std.proofs.lemmas.List.Elements.{All-nil, All-cons, All-head, All-tail}
use Rattle.std.specs.Prelude.{if◌then◌else◌, nat_le, map, max}
use Rattle.std.specs.Option.{option_map}
use Rattle.grind_grammar.specs.declared.syntax.Unary.{Unary}
use Rattle.grind_grammar.specs.declared.syntax.Binary.{Binary}
use Rattle.grind_grammar.specs.Terms.{Term, Apply, One, Two, depth, row_depth, Annotation, Left, Right, Hyps, Concl, Pattern, Declaration, Sort, Fun, Theorem, Goal, Limit, Fits, AnnotationFits, DeclarationFits}
use Rattle.grind_grammar.specs.Reading.{fit, one, two, with_all, all_of, row_from, applied, theorem_with, goal_with}

-- x has the property and is given, or it has not and nothing is given
abbrev pub IsGiven : {A : Type 0} → (A → Type 0) → (A → Option A) → A → Type 0
IsGiven P f x = (P x × (f x ≡ Some x)) ⊎ (¬ P x × (f x ≡ None))

fit_case : (limit : ℕ) (t : Term) (b : Bool) → nat_le (depth t) limit ≡ b →
    (Fits limit t × ((if b then Some t else None) ≡ Some t)) ⊎ (¬ Fits limit t × ((if b then Some t else None) ≡ None))
fit_case limit t true e = inl (leb-true _ _ e, refl)
fit_case limit t false e = inr (λ h. let g = leb-false _ _ e in omega (arith, g, h), refl)

pub fit_given : (limit : ℕ) (t : Term) → IsGiven (Fits limit) (fit limit) t
unfolding fit
fit_given limit t = fit_case limit t _ refl

pub one_fits : (limit : ℕ) (op : Unary) (t : Term) → one limit op (fit limit t) ≡ fit limit (One op t)
unfolding one
one_fits limit op t = go (fit_given limit t) (fit_given limit (One op t))
  where
    go : IsGiven (Fits limit) (fit limit) t → IsGiven (Fits limit) (fit limit) (One op t) → one limit op (fit limit t) ≡ fit limit (One op t)
    go (inl a) b = rw a.1 refl
    go (inr a) (inr b) = rw (a.1, b.1) refl
    go (inr a) (inl b) = absurd (a.0 (let h : depth t + 1 ≤ limit = b.0 in omega arith))

pub two_fits : (limit : ℕ) (op : Binary) (t u : Term) → two limit op (fit limit t) (fit limit u) ≡ fit limit (Two op t u)
unfolding two
two_fits limit op t u = go (fit_given limit t) (fit_given limit u) (fit_given limit (Two op t u))
  where
    go : IsGiven (Fits limit) (fit limit) t → IsGiven (Fits limit) (fit limit) u → IsGiven (Fits limit) (fit limit) (Two op t u) →
        two limit op (fit limit t) (fit limit u) ≡ fit limit (Two op t u)
    go (inl a) (inl b) c = rw (a.1, b.1) refl
    go (inl a) (inr b) (inr c) = rw (a.1, b.1, c.1) refl
    go (inl a) (inr b) (inl c) = absurd (b.0 (let h : max (depth t) (depth u) + 1 ≤ limit = c.0 in omega arith))
    go (inr a) b (inr c) = rw (a.1, c.1) refl
    go (inr a) b (inl c) = absurd (a.0 (let h : max (depth t) (depth u) + 1 ≤ limit = c.0 in omega arith))

module _ {A : Type 0} (P : A → Type 0) (f : A → Option A) (given : (x : A) → IsGiven P f x) where
  all_step : (x : A) (xs : List A) → IsGiven P f x → (All P xs × (all_of (map f xs) ≡ Some xs)) ⊎ (¬ All P xs × (all_of (map f xs) ≡ None)) →
      (All P (x ∷ xs) × (with_all (f x) (all_of (map f xs)) ≡ Some (x ∷ xs))) ⊎ (¬ All P (x ∷ xs) × (with_all (f x) (all_of (map f xs)) ≡ None))
  unfolding with_all
  all_step x xs (inl a) (inl b) = inl (All-cons P x xs a.0 b.0, rw (a.1, b.1) refl)
  all_step x xs (inl a) (inr b) = inr (λ h. b.0 (All-tail P x xs h), rw (a.1, b.1) refl)
  all_step x xs (inr a) b = inr (λ h. a.0 (All-head P x xs h), rw a.1 refl)

  pub all_given : (xs : List A) → (All P xs × (all_of (map f xs) ≡ Some xs)) ⊎ (¬ All P xs × (all_of (map f xs) ≡ None))
  unfolding all_of
  all_given [] = inl (All-nil P, refl)
  all_given (x ∷ xs) = all_step x xs (given x) (all_given xs)

-- a row is as deep as its terms

pub row_fits : (limit : ℕ) (ts : List Term) → All (Fits limit) ts → row_depth (row_from ts) ≤ limit
unfolding row_from
row_fits limit [] h = omega arith
row_fits limit (t ∷ ts) h =
    let a : depth t ≤ limit = All-head (Fits limit) t ts h in
    let b = row_fits limit ts (All-tail (Fits limit) t ts h) in omega (arith, a, b)

pub fits_row : (limit : ℕ) (ts : List Term) → row_depth (row_from ts) ≤ limit → All (Fits limit) ts
unfolding row_from
fits_row limit [] h = All-nil (Fits limit)
fits_row limit (t ∷ ts) h = All-cons (Fits limit) t ts (omega (arith, h)) (fits_row limit ts (omega (arith, h)))

pub applied_fits : (limit : ℕ) (name : List ℕ) (ts : List Term) → applied limit name (all_of (map (fit limit) ts)) ≡ fit limit (Apply name (row_from ts))
unfolding applied
applied_fits limit name ts = go (all_given (Fits limit) (fit limit) (fit_given limit) ts) (fit_given limit (Apply name (row_from ts)))
  where
    go : (All (Fits limit) ts × (all_of (map (fit limit) ts) ≡ Some ts)) ⊎ (¬ All (Fits limit) ts × (all_of (map (fit limit) ts) ≡ None)) →
        IsGiven (Fits limit) (fit limit) (Apply name (row_from ts)) →
        applied limit name (all_of (map (fit limit) ts)) ≡ fit limit (Apply name (row_from ts))
    go (inl a) b = rw a.1 refl
    go (inr a) (inr b) = rw (a.1, b.1) refl
    go (inr a) (inl b) = absurd (a.0 (fits_row limit ts (let h : row_depth (row_from ts) + 1 ≤ limit = b.0 in omega arith)))

-- annotations and declarations

unfoldable pub fit_annotation : ℕ → Annotation → Option Annotation
fit_annotation limit Left = Some Left
fit_annotation limit Right = Some Right
fit_annotation limit Hyps = Some Hyps
fit_annotation limit Concl = Some Concl
fit_annotation limit (Pattern ts) = option_map Pattern (all_of (map (fit limit) ts))

pub annotation_given : (limit : ℕ) (a : Annotation) → IsGiven (AnnotationFits limit) (fit_annotation limit) a
unfolding fit_annotation
annotation_given limit Left = inl (tt, refl)
annotation_given limit Right = inl (tt, refl)
annotation_given limit Hyps = inl (tt, refl)
annotation_given limit Concl = inl (tt, refl)
annotation_given limit (Pattern ts) = go (all_given (Fits limit) (fit limit) (fit_given limit) ts)
  where
    go : (All (Fits limit) ts × (all_of (map (fit limit) ts) ≡ Some ts)) ⊎ (¬ All (Fits limit) ts × (all_of (map (fit limit) ts) ≡ None)) →
        IsGiven (AnnotationFits limit) (fit_annotation limit) (Pattern ts)
    go (inl a) = inl (a.0, rw a.1 refl)
    go (inr a) = inr (a.0, rw a.1 refl)

unfoldable pub fit_declaration : ℕ → Declaration → Option Declaration
fit_declaration limit (Sort name) = Some (Sort name)
fit_declaration limit (Fun name sorts result) = Some (Fun name sorts result)
fit_declaration limit (Theorem name bounds annotations body) = theorem_with name bounds (all_of (map (fit_annotation limit) annotations)) (fit limit body)
fit_declaration limit (Goal name bounds hs show) = goal_with name bounds (all_of (map (fit limit) hs)) (fit limit show)
fit_declaration limit (Limit name value) = Some (Limit name value)

pub declaration_given : (limit : ℕ) (d : Declaration) → IsGiven (DeclarationFits limit) (fit_declaration limit) d
unfolding fit_declaration theorem_with goal_with
declaration_given limit (Sort name) = inl (tt, refl)
declaration_given limit (Fun name sorts result) = inl (tt, refl)
declaration_given limit (Limit name value) = inl (tt, refl)
declaration_given limit (Theorem name bounds annotations body) =
    go (all_given (AnnotationFits limit) (fit_annotation limit) (annotation_given limit) annotations) (fit_given limit body)
  where
    go : (All (AnnotationFits limit) annotations × (all_of (map (fit_annotation limit) annotations) ≡ Some annotations))
        ⊎ (¬ All (AnnotationFits limit) annotations × (all_of (map (fit_annotation limit) annotations) ≡ None)) →
        IsGiven (Fits limit) (fit limit) body → IsGiven (DeclarationFits limit) (fit_declaration limit) (Theorem name bounds annotations body)
    go (inl a) (inl b) = inl ((a.0, b.0), rw (a.1, b.1) refl)
    go (inl a) (inr b) = inr (λ h. b.0 h.1, rw (a.1, b.1) refl)
    go (inr a) b = inr (λ h. a.0 h.0, rw a.1 refl)
declaration_given limit (Goal name bounds hs show) =
    go (all_given (Fits limit) (fit limit) (fit_given limit) hs) (fit_given limit show)
  where
    go : (All (Fits limit) hs × (all_of (map (fit limit) hs) ≡ Some hs)) ⊎ (¬ All (Fits limit) hs × (all_of (map (fit limit) hs) ≡ None)) →
        IsGiven (Fits limit) (fit limit) show → IsGiven (DeclarationFits limit) (fit_declaration limit) (Goal name bounds hs show)
    go (inl a) (inl b) = inl ((a.0, b.0), rw (a.1, b.1) refl)
    go (inl a) (inr b) = inr (λ h. b.0 h.1, rw (a.1, b.1) refl)
    go (inr a) b = inr (λ h. a.0 h.0, rw a.1 refl)
