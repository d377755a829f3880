-- The bounds of an atom, fact by fact.
use Rattle.std.proofs.Common.{◌≡◌, ◌↔◌, inl, inr, ℕ, List, [], ◌∷◌, length, ℤ, pos, ◌+ℤ◌, ◌*ℤ◌, ◌≤ℤ◌, ◌<ℤ◌, Some, None, arith, sym, ap, ◌∙◌, subst}
use Rattle.std.proofs.lemmas.Option.{same_Some}
use Rattle.grind_linear_forms.specs.declared.form.Part.{Part}
use Rattle.grind_linear_forms.specs.Forms.{FormData, form_data, part_of}
use Rattle.grind_claims.specs.declared.claim.Claim.{Claim}
use Rattle.grind_claims.specs.declared.claim.Claim.TheVariants.{AtMost}
use Rattle.grind_cutsat_facts.specs.declared.facts.Fact.{Fact}
use Rattle.grind_cutsat_facts.specs.Facts.{fact_of, IsSaid}
use Rattle.grind_cutsat_facts.proofs.FactLemmas.{none_listed, first_or_rest, at_first, in_rest}
use Rattle.grind_cutsat_bounds.specs.declared.limits.Limits.{Limits}
use Rattle.grind_cutsat_bounds.specs.declared.choice.Choice.{Choice}
use Rattle.grind_cutsat_bounds.specs.declared.choice.Choice.TheVariants as choices
use Rattle.grind_cutsat_bounds.specs.Evaluations.{evaluated}
use Rattle.grind_cutsat_bounds.specs.Bounds.{Bound, bound_form, ClaimsBound, IsBound, rest_at, Allows, IsBetween, IsBelow, IsUnfit}
use Rattle.grind_cutsat_bounds.specs.Nearest.{IsNearest, IsGreatest}
use Rattle.grind_cutsat_bounds.specs.Choices.{IsChoice}
use Rattle.grind_cutsat_bounds.specs.Limits.{limits_of, IsUnder, IsWithin, IsNarrowed, AreLimits, IsChosen}

-- a bound that is read off parts and a constant
abbrev no_bound : Bound
no_bound = record { coefficient = pos 0; greater = []; constant = pos 0 }

abbrev bound_from : List Part → ℤ → Bound
bound_from [] constant = no_bound
bound_from (part ∷ greater) constant = record { coefficient = part.coefficient; greater = greater; constant = constant }

abbrev bound_in : Claim → Bound
bound_in (AtMost form) = bound_from form.parts form.constant
bound_in _ = no_bound

abbrev parts_in : Claim → List Part
parts_in (AtMost form) = form.parts
parts_in _ = []

abbrev first_node : ℕ → List Part → ℕ
first_node n [] = n
first_node n (part ∷ parts) = part.node

abbrev IsLong : List Part → Type 0
IsLong [] = ⊥
IsLong (part ∷ parts) = Unit {0}

-- a claim is one bound of an atom
pub one_bound : (claim : Claim) (x : ℕ) (a b : Bound) → ClaimsBound claim x a → ClaimsBound claim x b → a ≡ b
one_bound claim x a b e f = ap bound_in (sym e ∙ f)

-- a form without parts is none
pub bounds_nothing : (form : FormData) (x : ℕ) (bound : Bound) → length form.parts ≡ 0 → ¬ ClaimsBound (AtMost form) x bound
bounds_nothing form x bound none = λ e. long (ap parts_in e)
  where
    long : form.parts ≡ part_of x bound.coefficient ∷ bound.greater → ⊥
    long e = let more = ap (λ (parts : List Part). length parts) e in omega (arith, none, more)

-- nor one with another lead
pub bounds_another : (form : FormData) (part : Part) (tail : List Part) (x : ℕ) (bound : Bound) → form.parts ≡ part ∷ tail
    → (part.node ≡ x → ⊥) → ¬ ClaimsBound (AtMost form) x bound
bounds_another form part tail x bound is other = λ e. other (ap (first_node x) (sym is ∙ ap parts_in e))

-- a form with this lead is one
pub bounds_lead : (form : FormData) (part : Part) (tail : List Part) (x : ℕ) → form.parts ≡ part ∷ tail → part.node ≡ x
    → ClaimsBound (AtMost form) x (record { coefficient = part.coefficient; greater = tail; constant = form.constant })
bounds_lead form part tail x is same = ap (λ (it : FormData). AtMost it) whole
  where
    parts : form.parts ≡ part_of x part.coefficient ∷ tail
    parts = is ∙ ap (λ n. part_of n part.coefficient ∷ tail) same

    whole : form ≡ form_data (part_of x part.coefficient ∷ tail) form.constant
    whole = ap (λ (these : List Part). form_data these form.constant) parts

module _ (v : ℕ → ℤ) (x : ℕ) (claim : Claim) (form : FormData) (part : Part) (tail : List Part) (says : claim ≡ AtMost form)
    (is : form.parts ≡ part ∷ tail) (same : part.node ≡ x) where
  abbrev read_bound : Bound
  read_bound = record { coefficient = part.coefficient; greater = tail; constant = form.constant }

  claims_it : ClaimsBound claim x read_bound
  claims_it = says ∙ bounds_lead form part tail x is same

  -- a bound that does not fit is told
  pub narrowed_none : evaluated v form.constant tail ≡ None → (bound : Bound) × ClaimsBound claim x bound × (rest_at v bound ≡ None)
  narrowed_none none = (read_bound, claims_it, none)

module _ (v : ℕ → ℤ) (x : ℕ) where
  -- a claim that is no bound of the atom leaves the limits
  pub narrowed_not : (limits : Limits) (claim : Claim) → ((bound : Bound) → ¬ ClaimsBound claim x bound)
      → IsNarrowed v limits claim x limits
  narrowed_not limits claim other = record {
    fits = λ bound e. absurd (other bound e);
    within = λ n. (λ h. (h, λ bound e. absurd (other bound e)), λ h. h.0);
    under = λ n. (λ h. (h, λ bound e over. absurd (other bound e)), λ h. h.0);
  }

  -- a bound that fits narrows them
  pub narrowed_by : (old new : Limits) (claim : Claim) (bound : Bound) (rest : ℤ) → ClaimsBound claim x bound
      → rest_at v bound ≡ Some rest
      → ((n : ℤ) → IsWithin new n ↔ (IsWithin old n × ((bound.coefficient *ℤ n +ℤ rest) ≤ℤ pos 0)))
      → ((n : ℤ) → IsUnder new n ↔ (IsUnder old n × (pos 0 <ℤ bound.coefficient → (bound.coefficient *ℤ n +ℤ rest) ≤ℤ pos 0)))
      → IsNarrowed v old claim x new
  narrowed_by old new claim bound rest is fits within under = record {
    fits = λ other e. (rest, subst (λ (b : Bound). rest_at v b ≡ Some rest) (one_bound claim x bound other is e) fits);
    within = λ n. (
      λ h. let parts = (within n).0 h in (
        parts.0,
        λ other e. subst (λ (b : Bound). Allows v b n) (one_bound claim x bound other is e) (rest, fits, parts.1),
      ),
      λ h. (within n).1 (h.0, allowed n (h.1 bound is)),
    );
    under = λ n. (
      λ h. let parts = (under n).0 h in (
        parts.0,
        λ other e over.
            let same = one_bound claim x bound other is e in
            subst (λ (b : Bound). Allows v b n) same
            (rest, fits, parts.1 (subst (λ (b : Bound). pos 0 <ℤ b.coefficient) (sym same) over)),
      ),
      λ h. (under n).1 (h.0, λ over. allowed n (h.1 bound is over)),
    );
  }
    where
      same_rest : (other : ℤ) → rest_at v bound ≡ Some other → other ≡ rest
      same_rest other e = same_Some other rest (sym e ∙ fits)

      allowed : (n : ℤ) → Allows v bound n → (bound.coefficient *ℤ n +ℤ rest) ≤ℤ pos 0
      allowed n h = subst (λ (r : ℤ). (bound.coefficient *ℤ n +ℤ r) ≤ℤ pos 0) (same_rest h.0 h.1) h.2

  module _ (facts : List Fact) where
    -- before any fact is read
    pub limits_first : AreLimits v facts facts x (limits_of None None)
    limits_first = record {
      left = λ post claim h. h;
      fits = λ h. h;
      within = λ n. (λ h. h.1, λ h. ((tt, tt), h));
      under = λ n. (λ h. h.1, λ h. (tt, h));
    }

    -- once one more is read
    module _ (rest tail : List Fact) (fact : Fact) (is : rest ≡ fact ∷ tail) where
      later : (post : ℕ) (claim : Claim) → IsSaid tail post claim → IsSaid rest post claim
      later post claim h = subst (λ (xs : List Fact). IsSaid xs post claim) (sym is) (in_rest fact tail (fact_of post claim) h)

      pub here : IsSaid rest fact.post fact.claim
      here = subst (λ (xs : List Fact). IsSaid xs fact.post fact.claim) (sym is) (at_first fact tail)

      by_cases : (P : Type 0) (post : ℕ) (claim : Claim) → IsSaid rest post claim → (fact.claim ≡ claim → P)
          → (IsSaid tail post claim → P) → P
      by_cases P post claim h first more =
          elim (first_or_rest fact tail (fact_of post claim) (subst (λ (xs : List Fact). IsSaid xs post claim) is h)) [
            | inl same ↦ first (ap (λ (it : Fact). it.claim) same)
            | inr there ↦ more there
          ]

      pub limits_next : (old new : Limits) → IsNarrowed v old fact.claim x new → AreLimits v facts rest x old
          → AreLimits v facts tail x new
      limits_next old new narrowed so_far = record {
        left = λ post claim h. so_far.left post claim (later post claim h);
        fits = λ h. so_far.fits (λ post bound said. by_cases ((r : ℤ) × (rest_at v bound ≡ Some r)) post (AtMost (bound_form x bound)) said
            (λ same. narrowed.fits bound same) (λ there. h post bound there));
        within = λ n. (
          λ h.
              let parts = (narrowed.within n).0 h.0 in
              (so_far.within n).0 (
                parts.0,
                λ post bound said. by_cases (Allows v bound n) post (AtMost (bound_form x bound)) said
                    (λ same. parts.1 bound same) (λ there. h.1 post bound there),
              ),
          λ h.
              let parts = (so_far.within n).1 h in (
                (narrowed.within n).1 (parts.0, λ bound same. parts.1 fact.post bound (as_bound bound same)),
                λ post bound said. parts.1 post bound (later post (AtMost (bound_form x bound)) said),
              ),
        );
        under = λ n. (
          λ h.
              let parts = (narrowed.under n).0 h.0 in
              (so_far.under n).0 (
                parts.0,
                λ post bound said over. by_cases (Allows v bound n) post (AtMost (bound_form x bound)) said
                    (λ same. parts.1 bound same over) (λ there. h.1 post bound there over),
              ),
          λ h.
              let parts = (so_far.under n).1 h in (
                (narrowed.under n).1 (parts.0, λ bound same over. parts.1 fact.post bound (as_bound bound same) over),
                λ post bound said over. parts.1 post bound (later post (AtMost (bound_form x bound)) said) over,
              ),
        );
      }
        where
          as_bound : (bound : Bound) → ClaimsBound fact.claim x bound → IsBound rest x fact.post bound
          as_bound bound same = subst (λ (claim : Claim). IsSaid rest fact.post claim) same here

      -- a bound that does not fit is one of the facts
      pub unfit_here : (limits : Limits) → AreLimits v facts rest x limits
          → ((bound : Bound) × ClaimsBound fact.claim x bound × (rest_at v bound ≡ None)) → IsUnfit v facts x fact.post
      unfit_here limits so_far h = (
        h.0,
        so_far.left fact.post (AtMost (bound_form x h.0)) (subst (λ (claim : Claim). IsSaid rest fact.post claim) h.1 here),
        h.2,
      )

    -- where no fact is left
    pub limits_last : (rest : List Fact) (limits : Limits) → length rest ≡ 0 → AreLimits v facts rest x limits
        → AreLimits v facts [] x limits
    limits_last [] limits e h = h
    limits_last (fact ∷ rest) limits e h = absurd (omega arith)

    nothing : (post : ℕ) (bound : Bound) → ¬ IsBound [] x post bound
    nothing post bound = λ h. none_listed (fact_of post (AtMost (bound_form x bound))) h

    between_iff : (limits : Limits) → AreLimits v facts [] x limits → (n : ℤ) → IsWithin limits n ↔ IsBetween v facts x n
    between_iff limits all n = (
      λ h. (all.within n).0 (h, λ post bound said. absurd (nothing post bound said)),
      λ h. ((all.within n).1 h).0,
    )

    below_iff : (limits : Limits) → AreLimits v facts [] x limits → (n : ℤ) → IsUnder limits n ↔ IsBelow v facts x n
    below_iff limits all n = (
      λ h. (all.under n).0 (h, λ post bound said over. absurd (nothing post bound said)),
      λ h. ((all.under n).1 h).0,
    )

    nearest_moves : (P Q : ℤ → Type 0) (n : ℤ) → ((k : ℤ) → P k ↔ Q k) → IsNearest P n → IsNearest Q n
    nearest_moves P Q n same h = record {
      within = (same n).0 h.within;
      nearest = λ k q. h.nearest k ((same k).1 q);
      positive = λ k q e. h.positive k ((same k).1 q) e;
    }

    greatest_moves : (P Q : ℤ → Type 0) (n : ℤ) → ((k : ℤ) → P k ↔ Q k) → IsGreatest P n → IsGreatest Q n
    greatest_moves P Q n same h = record {
      within = (same n).0 h.within;
      greatest = λ k q. h.greatest k ((same k).1 q);
    }

    -- what is chosen within the limits of all facts is chosen for the atom
    pub choice_within : (limits : Limits) (choice : Choice) → AreLimits v facts [] x limits → IsChosen limits choice
        → IsChoice v facts x choice
    choice_within limits (choices.Value n) all h = (
      all.fits (λ post bound said. absurd (nothing post bound said)),
      nearest_moves (IsWithin limits) (IsBetween v facts x) n (between_iff limits all) h,
    )
    choice_within limits (choices.Gap n) all h = (
      all.fits (λ post bound said. absurd (nothing post bound said)),
      λ k between. h.0 k ((between_iff limits all k).1 between),
      greatest_moves (IsUnder limits) (IsBelow v facts x) n (below_iff limits all) h.1,
    )
    choice_within limits (choices.Unfit post) all h = absurd h
