-- Facts one by one, and the cases that they give.
use Rattle.std.proofs.Common.{◌≡◌, inl, inr, ℕ, List, [], ◌∷◌, length, Option, Some, None, arith, sym, ap, subst}
use Rattle.std.specs.Prelude.{MatchOption}
use Rattle.grind_claims.specs.declared.claim.Claim.{Claim}
use Rattle.grind_cutsat_facts.specs.declared.facts.Fact.{Fact}
use Rattle.grind_cutsat_facts.specs.Facts.{fact_of, IsSaid}
use Rattle.grind_cutsat_facts.proofs.FactLemmas.{none_listed, first_or_rest, at_first, in_rest}
use Rattle.grind_cutsat_units.specs.declared.types.Planned.{Planned}
use Rattle.grind_cutsat_units.specs.declared.types.Draft.{Draft}
use Rattle.grind_cutsat_units.specs.Posts.{AllStand, IsCaseOf, NoCase, HasCase, IsFound, AtSomeFact}
use Rattle.grind_cutsat_units.specs.Passing.{IsPassed, IsWithout}

module _ (Gives : Claim → List Planned → Type 0) (facts : List Fact) where
  pub passed_first : IsPassed Gives facts facts
  passed_first = record { within = λ post claim said. said; none = λ h. h }

  module _ (rest tail : List Fact) (fact : Fact) (is : rest ≡ fact ∷ tail) (so_far : IsPassed Gives facts rest) where
    pub here : IsSaid facts fact.post fact.claim
    here = so_far.within fact.post fact.claim
        (subst (λ (xs : List Fact). IsSaid xs fact.post fact.claim) (sym is) (at_first fact tail))

    -- a case of the fact at hand is one of all
    pub found_here : (next : ℕ) (drafts : List Draft) → HasCase facts next (Gives fact.claim) drafts
        → HasCase facts next (AtSomeFact facts Gives) drafts
    found_here next drafts h = (h.0, (fact.post, (fact.claim, here, h.1)), h.2)

    -- where it has none, it is passed
    pub passed_next : NoCase facts (Gives fact.claim) → IsPassed Gives facts tail
    passed_next none = record {
      within = λ post claim said. so_far.within post claim
          (subst (λ (xs : List Fact). IsSaid xs post claim) (sym is) (in_rest fact tail (fact_of post claim) said));
      none = λ left. so_far.none (λ posts case.
          let said = subst (λ (xs : List Fact). IsSaid xs case.0 case.1.0) is case.1.1 in
          elim (first_or_rest fact tail (fact_of case.0 case.1.0) said) [
            | inl same ↦ none posts (subst (λ (claim : Claim). Gives claim posts) (sym (ap (λ (it : Fact). it.claim) same)) case.1.2)
            | inr more ↦ left posts (case.0, (case.1.0, more, case.1.2))
          ]);
    }

  pub passed_last : (rest : List Fact) → length rest ≡ 0 → IsPassed Gives facts rest → NoCase facts (AtSomeFact facts Gives)
  passed_last [] e so_far = so_far.none (λ posts case. absurd (none_listed (fact_of case.0 case.1.0) case.1.1))
  passed_last (fact ∷ rest) e so_far = absurd (omega arith)

module _ (P : Claim → Type 0) (facts : List Fact) where
  pub without_first : IsWithout P facts facts
  without_first = record { within = λ post claim said. said; none = λ h. h }

  module _ (rest tail : List Fact) (fact : Fact) (is : rest ≡ fact ∷ tail) (so_far : IsWithout P facts rest) where
    -- the fact at hand is one of all
    pub said_at_hand : IsSaid facts fact.post fact.claim
    said_at_hand = so_far.within fact.post fact.claim
        (subst (λ (xs : List Fact). IsSaid xs fact.post fact.claim) (sym is) (at_first fact tail))

    pub without_next : ¬ P fact.claim → IsWithout P facts tail
    without_next other = record {
      within = λ post claim said. so_far.within post claim
          (subst (λ (xs : List Fact). IsSaid xs post claim) (sym is) (in_rest fact tail (fact_of post claim) said));
      none = λ left. so_far.none (λ post claim said holds.
          elim (first_or_rest fact tail (fact_of post claim) (subst (λ (xs : List Fact). IsSaid xs post claim) is said)) [
            | inl same ↦ other (subst P (sym (ap (λ (it : Fact). it.claim) same)) holds)
            | inr more ↦ left post claim more holds
          ]);
    }

  pub without_last : (rest : List Fact) → length rest ≡ 0 → IsWithout P facts rest → (post : ℕ) (claim : Claim) → IsSaid facts post claim → ¬ P claim
  without_last [] e so_far = so_far.none (λ post claim said holds. none_listed (fact_of post claim) said)
  without_last (fact ∷ rest) e so_far = absurd (omega arith)

-- a kind of case with one list of posts is found by its drafts
pub found_by : (facts : List Fact) (next : ℕ) (Case : List Planned → Type 0) (posts : List Planned) → Case posts
    → ((others : List Planned) → Case others → others ≡ posts) → (found : Option (List Draft))
    → MatchOption found (AllStand facts posts) (λ drafts. IsCaseOf facts next posts drafts) → IsFound facts next Case found
found_by facts next Case posts case one None h = λ others other. subst (λ (these : List Planned). AllStand facts these) (sym (one others other)) h
found_by facts next Case posts case one (Some drafts) h = (posts, case, h)
