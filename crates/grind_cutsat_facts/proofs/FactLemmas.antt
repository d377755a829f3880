-- Facts one by one.
use Rattle.std.proofs.Common.{◌≡◌, ◌↔◌, ◌⊎◌, inl, inr, ℕ, List, [], ◌∷◌, length, Contains, refl, sym, ap, ◌∙◌, subst, arith}
use Rattle.std.proofs.lemmas.List.Elements.{Contains-append_left, Contains-append_right, Contains-append_cases, Contains-push, Contains-push_cases}
use Rattle.grind_linear_forms.specs.Forms.{FormData}
use Rattle.grind_claims.specs.declared.claim.Claim.{Claim}
use Rattle.grind_cutsat_facts.specs.declared.facts.Fact.{Fact}
use Rattle.grind_cutsat_facts.specs.Facts.{fact_of, IsSaid}
use Rattle.grind_cutsat_facts.specs.Covering.{Covers, HasCover}

-- an empty list has no items
pub none_listed : {X : Type 0} → (y : X) → Contains [] y → ⊥
none_listed y h = omega (arith, h.1)

-- an item of a list is the first, or one of the rest
pub first_or_rest : {X : Type 0} → (x : X) (xs : List X) (y : X) → Contains (x ∷ xs) y → (x ≡ y) ⊎ Contains xs y
first_or_rest x xs y h = elim (Contains-append_cases (x ∷ []) xs y h) [
  | inl one ↦ elim (Contains-push_cases [] x y one) [
    | inl none ↦ absurd (none_listed y none)
    | inr same ↦ inl same
  ]
  | inr more ↦ inr more
]

pub at_first : {X : Type 0} → (x : X) (xs : List X) → Contains (x ∷ xs) x
at_first x xs = Contains-append_left (x ∷ []) xs x (Contains-push [] x)

pub in_rest : {X : Type 0} → (x : X) (xs : List X) (y : X) → Contains xs y → Contains (x ∷ xs) y
in_rest x xs y h = Contains-append_right (x ∷ []) xs y h

-- a fact that says another claim is passed over
pub passed_over : (facts rest tail : List Fact) (fact : Fact) (claim : Claim) → rest ≡ fact ∷ tail → (fact.claim ≡ claim → ⊥)
    → ((post : ℕ) → IsSaid rest post claim ↔ IsSaid facts post claim)
    → (post : ℕ) → IsSaid tail post claim ↔ IsSaid facts post claim
passed_over facts rest tail fact claim is other so_far post = (
  λ h. (so_far post).0 (subst (λ (xs : List Fact). IsSaid xs post claim) (sym is) (in_rest fact tail (fact_of post claim) h)),
  λ h. elim (first_or_rest fact tail (fact_of post claim)
      (subst (λ (xs : List Fact). IsSaid xs post claim) is ((so_far post).1 h))) [
        | inl same ↦ absurd (other (ap (λ (it : Fact). it.claim) same))
        | inr more ↦ more
      ],
)

-- the fact that says the claim is one of all
pub said_here : (facts rest tail : List Fact) (fact : Fact) (claim : Claim) → rest ≡ fact ∷ tail → fact.claim ≡ claim
    → ((post : ℕ) → IsSaid rest post claim ↔ IsSaid facts post claim) → IsSaid facts fact.post claim
said_here facts rest tail fact claim is same so_far =
    let whole : fact_of fact.post claim ≡ fact = λ i. record { post = fact.post; claim = sym same i } in
    (so_far fact.post).0 (subst (λ (xs : List Fact). IsSaid xs fact.post claim) (sym is)
    (subst (λ (it : Fact). Contains (fact ∷ tail) it) (sym whole) (at_first fact tail)))

-- where no fact is left, none says the claim
pub said_nowhere : (facts rest : List Fact) (claim : Claim) → length rest ≡ 0
    → ((post : ℕ) → IsSaid rest post claim ↔ IsSaid facts post claim) → (post : ℕ) → ¬ IsSaid facts post claim
said_nowhere facts [] claim e so_far post = λ h. none_listed (fact_of post claim) ((so_far post).1 h)
said_nowhere facts (fact ∷ rest) claim e so_far post = absurd (omega arith)

-- a fact that does not cover the form is passed over
pub uncovering : (facts rest tail : List Fact) (fact : Fact) (form : FormData) → rest ≡ fact ∷ tail → (Covers fact.claim form → ⊥)
    → (HasCover rest form ↔ HasCover facts form) → HasCover tail form ↔ HasCover facts form
uncovering facts rest tail fact form is other so_far = (
  λ h. so_far.0 (subst (λ (xs : List Fact). HasCover xs form) (sym is) (h.0, h.1, in_rest fact tail (fact_of h.0 h.1) h.2, h.3)),
  λ h.
      let found = subst (λ (xs : List Fact). HasCover xs form) is (so_far.1 h) in
      elim (first_or_rest fact tail (fact_of found.0 found.1) found.2) [
        | inl same ↦ absurd (other (subst (λ (claim : Claim). Covers claim form) (sym (ap (λ (it : Fact). it.claim) same)) found.3))
        | inr more ↦ (found.0, found.1, more, found.3)
      ],
)

-- a fact that covers it is one of all
pub covering : (facts rest tail : List Fact) (fact : Fact) (form : FormData) → rest ≡ fact ∷ tail → Covers fact.claim form
    → (HasCover rest form ↔ HasCover facts form) → HasCover facts form
covering facts rest tail fact form is covers so_far =
    so_far.0 (subst (λ (xs : List Fact). HasCover xs form) (sym is) (fact.post, fact.claim, at_first fact tail, covers))

-- where no fact is left, none covers it
pub uncovered : (facts rest : List Fact) (form : FormData) → length rest ≡ 0 → (HasCover rest form ↔ HasCover facts form)
    → HasCover facts form → ⊥
uncovered facts [] form e so_far h = let found = so_far.1 h in none_listed (fact_of found.0 found.1) found.2
uncovered facts (fact ∷ rest) form e so_far h = absurd (omega arith)
