-- Lists that are gone through from the front.
use Rattle.std.proofs.Common.{◌≡◌, ◌⊎◌, inl, inr, List, [], ◌∷◌, length, Contains, sym, subst, arith}
use Rattle.std.proofs.lemmas.List.Elements.{Contains-append_left, Contains-append_right, Contains-append_cases, Contains-push, Contains-push_cases}

-- an empty list has no items
pub none_listed : {X : Type 0} → (y : X) → Contains [] y → ⊥
none_listed y h = omega (arith, h.1)

-- an item of a list is the first, or one of the rest
pub first_or_rest : {X : Type 0} → (x : X) (xs : List X) (y : X) → Contains (x ∷ xs) y → (x ≡ y) ⊎ Contains xs y
first_or_rest x xs y h = elim (Contains-append_cases (x ∷ []) xs y h) [
  | inl one ↦ elim (Contains-push_cases [] x y one) [
    | inl none ↦ absurd (none_listed y none)
    | inr same ↦ inl same
  ]
  | inr more ↦ inr more
]

pub at_first : {X : Type 0} → (x : X) (xs : List X) → Contains (x ∷ xs) x
at_first x xs = Contains-append_left (x ∷ []) xs x (Contains-push [] x)

pub in_rest : {X : Type 0} → (x : X) (xs : List X) (y : X) → Contains xs y → Contains (x ∷ xs) y
in_rest x xs y h = Contains-append_right (x ∷ []) xs y h

-- the rest is of the whole, and each of the whole that is P is in the rest
pub record Passes (X : Type 0) (P : X → Type 0) (whole rest : List X) : Type 0 where
  pub within : (x : X) → Contains rest x → Contains whole x
  pub later : (x : X) → Contains whole x → P x → Contains rest x

module _ {X : Type 0} (P : X → Type 0) (whole rest : List X) where
  pub passes_begin : rest ≡ whole → Passes X P whole rest
  passes_begin is = record {
    within = λ x there. subst (λ (xs : List X). Contains xs x) is there;
    later = λ x there it. subst (λ (xs : List X). Contains xs x) (sym is) there;
  }

  module _ (x : X) (tail : List X) (is : rest ≡ x ∷ tail) (so_far : Passes X P whole rest) where
    pub passes_here : Contains whole x
    passes_here = so_far.within x (subst (λ (xs : List X). Contains xs x) (sym is) (at_first x tail))

    pub passes_step : ¬ P x → Passes X P whole tail
    passes_step other = record {
      within = λ y there. so_far.within y (subst (λ (xs : List X). Contains xs y) (sym is) (in_rest x tail y there));
      later = λ y there it. elim (first_or_rest x tail y (subst (λ (xs : List X). Contains xs y) is (so_far.later y there it))) [
        | inl same ↦ absurd (other (subst P (sym same) it))
        | inr more ↦ more
      ];
    }

pub passes_end : {X : Type 0} → (P : X → Type 0) (whole rest : List X) → length rest ≡ 0 → Passes X P whole rest
    → (x : X) → Contains whole x → ¬ P x
passes_end P whole [] none so_far x there = λ it. none_listed x (so_far.later x there it)
passes_end P whole (y ∷ ys) none so_far x there = absurd (omega arith)
