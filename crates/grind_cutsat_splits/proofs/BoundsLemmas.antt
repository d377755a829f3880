-- The bounds among the facts, one by one.
use Rattle.std.proofs.Common.{◌≡◌, ◌⊎◌, inl, inr, ℕ, List, [], ◌∷◌, ◌++◌, length, All, Contains, pos, FitsSigned, arith, refl, sym, ap, ◌∙◌, subst}
use Rattle.std.proofs.lemmas.List.Elements.{Contains-push, Contains-push_cases, Contains-append_left}
use Rattle.std.specs.Int.{w128}
use Rattle.grind_linear_forms.specs.Forms.{FormData, IsForm, number_form}
use Rattle.grind_claims.specs.declared.claim.Claim.{Claim}
use Rattle.grind_claims.specs.declared.claim.Claim.TheVariants.{AtMost}
use Rattle.grind_cutsat_facts.specs.declared.facts.Fact.{Fact}
use Rattle.grind_cutsat_facts.specs.Facts.{fact_of, IsSaid}
use Rattle.grind_cutsat_facts.proofs.FactLemmas.{none_listed, first_or_rest, at_first, in_rest}
use Rattle.grind_cutsat_splits.specs.Alone.{IsKept, AreBoundsSoFar, AreBoundsOf}

pub bounds_begin : (facts rest bounds : List Fact) → bounds ≡ [] → rest ≡ facts → AreBoundsSoFar facts rest bounds
bounds_begin facts rest bounds none is = record {
  left = λ post claim said. subst (λ (xs : List Fact). IsSaid xs post claim) is said;
  within = λ post claim said. absurd (none_listed (fact_of post claim) (subst (λ (xs : List Fact). IsSaid xs post claim) none said));
  alone = λ post claim said. absurd (none_listed (fact_of post claim) (subst (λ (xs : List Fact). IsSaid xs post claim) none said));
  kept = λ post form said. inr (subst (λ (xs : List Fact). IsSaid xs post (AtMost form)) (sym is) said);
}

module _ (facts rest tail old new : List Fact) (fact : Fact) (is : rest ≡ fact ∷ tail) (so_far : AreBoundsSoFar facts rest old) where
  left_on : (post : ℕ) (claim : Claim) → IsSaid tail post claim → IsSaid facts post claim
  left_on post claim said = so_far.left post claim
      (subst (λ (xs : List Fact). IsSaid xs post claim) (sym is) (in_rest fact tail (fact_of post claim) said))

  at_hand : IsSaid facts fact.post fact.claim
  at_hand = so_far.left fact.post fact.claim (subst (λ (xs : List Fact). IsSaid xs fact.post fact.claim) (sym is) (at_first fact tail))

  which : (post : ℕ) (claim : Claim) → IsSaid rest post claim → (fact ≡ fact_of post claim) ⊎ IsSaid tail post claim
  which post claim said = first_or_rest fact tail (fact_of post claim) (subst (λ (xs : List Fact). IsSaid xs post claim) is said)

  passed_by : new ≡ old → ((form : FormData) → fact.claim ≡ AtMost form → ⊥) → AreBoundsSoFar facts tail new
  passed_by same other = subst (AreBoundsSoFar facts tail) (sym same) (record {
    left = left_on;
    within = so_far.within;
    alone = so_far.alone;
    kept = λ post form said. elim (so_far.kept post form said) [
      | inl has ↦ inl has
      | inr more ↦ elim (which post (AtMost form) more) [
        | inl this ↦ absurd (other form (ap (λ (it : Fact). it.claim) this))
        | inr later ↦ inr later
      ]
    ];
  })

  put_on : new ≡ old ++ fact ∷ [] → (form : FormData) → fact.claim ≡ AtMost form → IsForm form × FitsSigned w128 form.constant
      → AreBoundsSoFar facts tail new
  put_on grown form bounds in_order = subst (AreBoundsSoFar facts tail) (sym grown) (record {
    left = left_on;
    within = λ post claim said. elim (Contains-push_cases old fact (fact_of post claim) said) [
      | inl has ↦ so_far.within post claim has
      | inr this ↦ subst (λ (it : Fact). Contains facts it) this at_hand
    ];
    alone = λ post claim said. elim (Contains-push_cases old fact (fact_of post claim) said) [
      | inl has ↦ so_far.alone post claim has
      | inr this ↦ (form, sym (ap (λ (it : Fact). it.claim) this) ∙ bounds, in_order.0, in_order.1)
    ];
    kept = λ post other said. elim (so_far.kept post other said) [
      | inl has ↦ inl (Contains-append_left old (fact ∷ []) (fact_of post (AtMost other)) has)
      | inr more ↦ elim (which post (AtMost other) more) [
        | inl this ↦ inl (subst (λ (it : Fact). Contains (old ++ fact ∷ []) it) this (Contains-push old fact))
        | inr later ↦ inr later
      ]
    ];
  })

  pub bounds_next : IsKept fact old new → AreBoundsSoFar facts tail new
  bounds_next kept = elim kept [
    | inl passed ↦ passed_by passed.0 passed.1
    | inr put ↦ put_on put.0 put.1 put.2 (put.3, put.4)
  ]

pub bounds_end : (facts rest bounds : List Fact) → length rest ≡ 0 → AreBoundsSoFar facts rest bounds → AreBoundsOf facts bounds
bounds_end facts [] bounds e so_far = record {
  within = so_far.within;
  alone = λ post claim said. (let it = so_far.alone post claim said in (it.0, it.1));
  kept = has;
  forms = λ post form said. (let it = so_far.alone post (AtMost form) (has post form said) in
      subst IsForm (sym (ap form_in it.1)) it.2);
  constants = λ post form said. (let it = so_far.alone post (AtMost form) (has post form said) in
      subst (λ (these : FormData). FitsSigned w128 these.constant) (sym (ap form_in it.1)) it.3);
}
  where
    form_in : Claim → FormData
    form_in (AtMost form) = form
    form_in _ = number_form (pos 0)

    has : (post : ℕ) (form : FormData) → IsSaid facts post (AtMost form) → IsSaid bounds post (AtMost form)
    has post form said = elim (so_far.kept post form said) [
      | inl here ↦ here
      | inr more ↦ absurd (none_listed (fact_of post (AtMost form)) more)
    ]
bounds_end facts (fact ∷ rest) bounds e so_far = absurd (omega arith)
