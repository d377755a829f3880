-- What holds at rest.
use Rattle.std.proofs.Common.{◌≡◌, ◌≢◌, ◌⊎◌, inl, inr, ℕ, zero, suc, List, [], ◌∷◌, Contains, ℤ, pos, sym, ap, ◌∙◌, refl, subst}
use Rattle.std.proofs.lemmas.Bool.{cases_Bool, eqb-true, eqb-false}
use Rattle.std.proofs.lemmas.Option.{same_Some}
use lib.Dec.{eqb}
use Rattle.grind_classes.specs.Classes.{AreTogether}
use Rattle.grind_polynomials.specs.declared.poly.Term.{Term}
use Rattle.grind_normal_forms.specs.declared.reduction.Reduced.{Reduced}
use Rattle.grind_normal_forms.specs.Reduction.{reduced_of}
use Rattle.grind_normal_forms.proofs.NormalLemmas.{zero-rest}
use Rattle.grind_claims.specs.declared.claim.Claim.{Claim}
use Rattle.grind_claims.specs.declared.claim.Claim.TheVariants.{Zero}
use Rattle.grind_claims.specs.declared.proof.Rule.TheVariants as rules
use Rattle.grind_arithmetic_rules.specs.PolyRules.{CoefficientsFit, IsIdeal}
use Rattle.grind_ring_basis.specs.declared.types.Basis.{Basis}
use Rattle.grind_ring_basis.specs.declared.types.Fact.{Fact}
use Rattle.grind_ring_basis.specs.declared.types.Pair.{Pair}
use Rattle.grind_ring_basis.specs.declared.types.Places.{Places}
use Rattle.grind_ring_basis.specs.declared.types.Combination.{Combination}
use Rattle.grind_ring_basis.specs.Bases.{fact, HasNormalForm, ReducesToZero}
use Rattle.grind_ring_basis.specs.Pairs.{IsTooHigh, IsPair}
use Rattle.grind_ring_units.specs.declared.types.Equality.{Equality}
use Rattle.grind_ring_units.specs.declared.types.State.{State}
use Rattle.grind_ring_units.specs.Given.{equality, IsClaimed}
use Rattle.grind_ring_units.specs.PairUnits.{AreElements}
use Rattle.grind_ring_units.specs.EqualTerms.{IsTakenAsEqual, AreAlike}
use Rattle.grind_ring_units.proofs.ListLemmas.{none_listed, first_or_rest, at_first, in_rest}
use Rattle.grind_ring_units.proofs.FindingLemmas.{pair_of}
use Rattle.grind_ring_solver.specs.Given.{IsIrreducible, IsState}
use Rattle.grind_ring_solver.specs.Steps.{IsJoiningForm, EachIsDone}
use Rattle.grind_ring_solver.specs.Laws.{RestIsReduced, EqualFormsAreJoined}
use Rattle.grind_ring_solver.proofs.FormLemmas.{irreducible_form, own_form}

-- ---- a normal form that joins
poly_in : Claim → List Term → List Term
poly_in (Zero poly) other = poly
poly_in _ other = other

same_zero : (a b : List Term) → Zero a ≡ Zero b → a ≡ b
unfolding poly_in
same_zero a b e = ap (λ (it : Claim). poly_in it a) e

allowed_fits : (divisor : ℤ) (factors : List (List Term)) (claims : List Claim) (rest : List Term) → IsIdeal divisor factors claims (Zero rest)
    → CoefficientsFit rest
allowed_fits divisor factors claims rest allowed = subst CoefficientsFit (sym (same_zero rest allowed.0 allowed.1)) allowed.4

module _ (state : State) (rest : List Term) (line : Combination) (joins : IsJoiningForm state rest line) where
  pub joining_irreducible : IsIrreducible state.basis rest
  joining_irreducible = elim joins [
    | inl one ↦
        let it = one.2.reducible in
        subst (IsIrreducible state.basis) (sym it.rest_is) (irreducible_form state.basis one.0.poly it.normal it.normal_is)
    | inr two ↦
        let it = two.3.reducible in
        subst (IsIrreducible state.basis) (sym it.rest_is) (irreducible_form state.basis two.2.poly it.normal it.normal_is)
  ]

  pub joining_fits : CoefficientsFit rest
  joining_fits = elim joins [
    | inl one ↦ allowed_fits _ _ _ rest one.2.line_is.line_is.allowed
    | inr two ↦ allowed_fits _ _ _ rest two.3.line_is.line_is.allowed
  ]

  pub joining_nonzero : rest ≢ []
  joining_nonzero = elim joins [
    | inl one ↦ one.2.reducible.nonzero
    | inr two ↦ two.3.reducible.nonzero
  ]

-- ---- all is reduced to 0
zero_form : (basis : Basis) (poly : List Term) (normal : Reduced) → HasNormalForm basis poly normal → normal.rest ≡ [] → ReducesToZero basis poly
zero_form basis poly normal has none =
    let factor : normal.factor ≡ pos 1 = zero-rest basis.elements poly normal has none in
    let whole : normal ≡ reduced_of (pos 1) [] = λ i. reduced_of (factor i) (none i) in subst (HasNormalForm basis poly) whole has

module _ (state : State) (is : IsState state) (done : EachIsDone state) where
  -- what nothing reduces and a known post says to be 0 is 0
  claimed_zero : (poly : List Term) → IsIrreducible state.basis poly → IsClaimed state poly → poly ≡ []
  claimed_zero poly free claimed = elim claimed.1 [
    | inl taken ↦
        let judged = done.posts (fact claimed.0 poly) taken in
        let same : judged.0.rest ≡ poly = own_form state.basis poly judged.0 free judged.1 in elim judged.2 [
          | inl none ↦ sym same ∙ none
          | inr other ↦ absurd (other.0 same)
        ]
    | inr own ↦
        sym (own_form state.basis poly (reduced_of (pos 1) []) free (is.zeroed (fact claimed.0 poly) own).zero)
  ]

  zero_or_claimed : (poly : List Term) (normal : Reduced) → HasNormalForm state.basis poly normal
      → (normal.rest ≡ []) ⊎ IsClaimed state normal.rest → ReducesToZero state.basis poly
  zero_or_claimed poly normal has which =
      zero_form state.basis poly normal has (elim which [
        | inl none ↦ none
        | inr claimed ↦ claimed_zero normal.rest (irreducible_form state.basis poly normal has) claimed
      ])

  post_zero : (it : Fact) → Contains state.taken it → ReducesToZero state.basis it.poly
  post_zero it there =
      let judged = done.posts it there in
      zero_or_claimed it.poly judged.0 judged.1 (elim judged.2 [
        | inl none ↦ inl none
        | inr other ↦ inr other.1
      ])

  pair_zero : (places : Places) (first second : List Term) → AreElements state places first second
      → IsTooHigh first second ⊎ ((pair : Pair) × IsPair first second pair × ReducesToZero state.basis pair.poly)
  pair_zero places first second are =
      let judged = done.pairs places first second are in
      let one : judged.0 ≡ first = same_Some judged.0 first (sym judged.2.first_is ∙ are.first_is) in
      let two : judged.1 ≡ second = same_Some judged.1 second (sym judged.2.second_is ∙ are.second_is) in elim judged.3 [
        | inl high ↦ inl (subst (λ (a : List Term). IsTooHigh a second) one (subst (λ (b : List Term). IsTooHigh judged.0 b) two high))
        | inr made ↦
            inr (
              made.0,
              pair_of state places first second made.0 are made.1,
              zero_or_claimed made.0.poly made.2 made.3 made.4,
            )
      ]

pub rest_is_reduced : RestIsReduced
rest_is_reduced state nodes lists is rest = record {
  posts = post_zero state is rest.done;
  pairs = pair_zero state is rest.done;
}

-- ---- terms with equal normal forms
is_same_number : (a b : ℕ) → (a ≡ b) ⊎ (a ≡ b → ⊥)
is_same_number a b = elim (cases_Bool (eqb a b)) [
  | inl same ↦ inl (eqb-true a b same)
  | inr other ↦ inr (eqb-false a b other)
]

is_listed : (ns : List ℕ) (n : ℕ) → Contains ns n ⊎ (Contains ns n → ⊥)
is_listed [] n = inr (none_listed n)
is_listed (x ∷ xs) n = elim (is_same_number x n) [
  | inl same ↦ inl (subst (Contains (x ∷ xs)) same (at_first x xs))
  | inr other ↦ elim (is_listed xs n) [
    | inl there ↦ inl (in_rest x xs n there)
    | inr none ↦ inr (λ there. elim (first_or_rest x xs n there) [
      | inl same ↦ other same
      | inr later ↦ none later
    ])
  ]
]

together_later : (x : List ℕ) (xs : List (List ℕ)) (a b : ℕ) → (AreTogether xs a b ⊎ (AreTogether xs a b → ⊥))
    → (Contains x a × Contains x b → ⊥) → AreTogether (x ∷ xs) a b ⊎ (AreTogether (x ∷ xs) a b → ⊥)
together_later x xs a b found not_here = elim found [
  | inl there ↦ inl (suc there.0, there.1, there.2)
  | inr none ↦ inr (nowhere not_here none)
]
  where
    nowhere : (Contains x a × Contains x b → ⊥) → (AreTogether xs a b → ⊥) → AreTogether (x ∷ xs) a b → ⊥
    nowhere here rest (zero, one, two) = here (one, two)
    nowhere here rest (suc r, one, two) = rest (r, one, two)

are_together : (lists : List (List ℕ)) (a b : ℕ) → AreTogether lists a b ⊎ (AreTogether lists a b → ⊥)
are_together [] a b = inr (λ both. none_listed a both.1)
are_together (x ∷ xs) a b = elim (is_listed x a) [
  | inl one ↦ elim (is_listed x b) [
    | inl two ↦ inl (0, one, two)
    | inr none ↦ together_later x xs a b (are_together xs a b) (λ both. none both.1)
  ]
  | inr none ↦ together_later x xs a b (are_together xs a b) (λ both. none both.0)
]

-- some post of the list says that the two are equal
SaysEqual : List Equality → ℕ → ℕ → Type 0
SaysEqual all a b = (post : ℕ) × Contains all (equality post a b)

taken_later : (x : Equality) (xs : List Equality) (a b : ℕ) → (SaysEqual xs a b ⊎ (SaysEqual xs a b → ⊥))
    → ((post : ℕ) → x ≡ equality post a b → ⊥) → SaysEqual (x ∷ xs) a b ⊎ (SaysEqual (x ∷ xs) a b → ⊥)
unfolding SaysEqual
taken_later x xs a b found not_here = elim found [
  | inl there ↦ inl (there.0, in_rest x xs (equality there.0 a b) there.1)
  | inr none ↦ inr (λ it. elim (first_or_rest x xs (equality it.0 a b) it.1) [
    | inl same ↦ not_here it.0 same
    | inr more ↦ none (it.0, more)
  ])
]

is_taken : (all : List Equality) (a b : ℕ) → SaysEqual all a b ⊎ (SaysEqual all a b → ⊥)
unfolding SaysEqual
is_taken [] a b = inr (λ it. none_listed (equality it.0 a b) it.1)
is_taken (x ∷ xs) a b = elim (is_same_number x.left a) [
  | inl one ↦ elim (is_same_number x.right b) [
    | inl two ↦
        let whole : x ≡ equality x.post a b = λ i. equality x.post (one i) (two i) in
        inl (x.post, subst (Contains (x ∷ xs)) whole (at_first x xs))
    | inr other ↦ taken_later x xs a b (is_taken xs a b) (λ post same. other (ap (λ (it : Equality). it.right) same))
  ]
  | inr other ↦ taken_later x xs a b (is_taken xs a b) (λ post same. other (ap (λ (it : Equality). it.left) same))
]

pub equal_forms_are_joined : EqualFormsAreJoined
unfolding SaysEqual
equal_forms_are_joined state nodes lists a b poly normal rest first second difference line = elim (are_together lists a b) [
  | inl joined ↦ inl joined
  | inr apart ↦ elim (is_taken state.equalities a b) [
    | inl taken ↦ inr taken
    | inr not_taken ↦ absurd (none apart not_taken)
  ]
]
  where
    none : (AreTogether lists a b → ⊥) → (IsTakenAsEqual state a b → ⊥) → ⊥
    none apart not_taken = elim line [
      | inl claimed ↦ by_claim claimed
      | inr other ↦
          rest.applies.equal a b poly (rules.Ideal other.0.divisor other.0.factors) other.0.from (record {
            alike = alike;
            line_is = inr (by_claim, other.0, other.1, refl, refl);
          })
    ]
      where
        alike : AreAlike state nodes lists a b poly
        alike = record {
          apart = apart;
          not_taken = not_taken;
          normal = normal;
          first = first;
          second = second;
          difference = difference;
        }

        by_claim : IsClaimed state poly → ⊥
        by_claim claimed =
            rest.applies.equal a b poly rules.Equal (claimed.0 ∷ []) (record {
              alike = alike;
              line_is = inl (claimed.0, claimed.1, refl, refl);
            })
