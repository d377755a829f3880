-- Claims that two whole numbers differ, one by one.
use Rattle.std.proofs.Common.{◌≡◌, ◌⊎◌, inl, inr, ℕ, List, [], ◌∷◌, length, All, Contains, ℤ, Option, Some, None, arith, refl, sym, ap, ◌∙◌, subst}
use Rattle.std.proofs.lemmas.Option.{none-some, same_Some}
use Rattle.grind_term_graph.specs.declared.node.Node.{Node}
use Rattle.grind_linear_forms.specs.Forms.{FormData}
use Rattle.grind_differences.specs.Bounds.{HasOpposite}
use Rattle.grind_claims.specs.declared.claim.Claim.{Claim}
use Rattle.grind_claims.specs.declared.claim.Claim.TheVariants.{Differ}
use Rattle.grind_cutsat_facts.specs.declared.facts.Fact.{Fact}
use Rattle.grind_cutsat_facts.specs.Facts.{fact_of, IsSaid}
use Rattle.grind_cutsat_facts.proofs.FactLemmas.{none_listed, first_or_rest, at_first, in_rest}
use Rattle.grind_cutsat_assignment.specs.Walks.{IsInt}
use Rattle.grind_cutsat_assignment.specs.Judgements.{AreUnfit, AreEqual, AreApart, Parts}
use Rattle.grind_cutsat_assignment.proofs.DifferLemmas.{same_two, apart_is_fit, equal_is_fit, apart_is_unequal}
use Rattle.grind_cutsat_splits.specs.Splits.{IsSplitOf, HasNoSplit}
use Rattle.grind_cutsat_splits.specs.Judging.{AreAmiss, AreToSplit, AreJudged, IsJudged, PartsOnly, AreFit, SomeFact, EachFact, IsPassing}
use Rattle.grind_cutsat_splits.specs.declared.judging.Judgement.{Judgement}
use Rattle.grind_cutsat_splits.specs.declared.judging.Judgement.TheVariants as judgements

-- ---- facts one by one
module _ (P : Claim → Type 0) (facts : List Fact) where
  pub passing_first : (rest : List Fact) → rest ≡ facts → IsPassing P facts rest
  passing_first rest is = record {
    within = λ post claim said. subst (λ (xs : List Fact). IsSaid xs post claim) is said;
    each = λ h. subst (λ (xs : List Fact). EachFact xs P) is h;
  }

  module _ (rest tail : List Fact) (fact : Fact) (is : rest ≡ fact ∷ tail) (so_far : IsPassing P facts rest) where
    pub passing_here : IsSaid facts fact.post fact.claim
    passing_here = so_far.within fact.post fact.claim
        (subst (λ (xs : List Fact). IsSaid xs fact.post fact.claim) (sym is) (at_first fact tail))

    pub passing_next : P fact.claim → IsPassing P facts tail
    passing_next holds = record {
      within = λ post claim said. so_far.within post claim
          (subst (λ (xs : List Fact). IsSaid xs post claim) (sym is) (in_rest fact tail (fact_of post claim) said));
      each = λ left. so_far.each (λ post claim said.
          elim (first_or_rest fact tail (fact_of post claim) (subst (λ (xs : List Fact). IsSaid xs post claim) is said)) [
            | inl same ↦ subst P (ap (λ (it : Fact). it.claim) same) holds
            | inr more ↦ left post claim more
          ]);
    }

  pub passing_last : (rest : List Fact) → length rest ≡ 0 → IsPassing P facts rest → EachFact facts P
  passing_last [] e so_far = so_far.each (λ post claim said. absurd (none_listed (fact_of post claim) said))
  passing_last (fact ∷ rest) e so_far = absurd (omega arith)

-- ---- one claim
pub no_split_of : (nodes : List Node) (a b : ℕ) (form : FormData) → HasNoSplit nodes a b → IsSplitOf nodes a b form → ⊥
no_split_of nodes a b form none is = elim none [
  | inl undefined ↦ none-some form (sym undefined ∙ is.0)
  | inr some ↦ some.2 (subst HasOpposite (same_Some form some.0 (sym is.0 ∙ some.1)) is.1)
]

module _ (nodes : List Node) (v : ℕ → ℤ) (claim : Claim) where
  -- what is not judged unfit fits
  pub fit_unless : (judgement : Judgement) → (judgement ≡ judgements.Unfit → ⊥) → IsJudged nodes v claim judgement
      → PartsOnly nodes (AreFit nodes v) claim
  fit_unless judgements.Silent other h = λ a b e int. absurd (h a b e int)
  fit_unless judgements.Unfit other h = λ a b e int. absurd (other refl)
  fit_unless (judgements.Split form) other h = λ a b e int.
      same_two claim h.0 h.1 a b (AreFit nodes v) h.2 e (inr (form, h.4))
  fit_unless judgements.Apart other h = λ a b e int.
      same_two claim h.0 h.1 a b (AreFit nodes v) h.2 e (inl h.4)

  -- what fits and is not split is apart
  amiss_is_unfit : (a b : ℕ) → AreFit nodes v a b → AreAmiss nodes v a b → ⊥
  amiss_is_unfit a b fit amiss = elim fit [
    | inl apart ↦ elim amiss [
      | inl unfit ↦ apart_is_fit nodes v a b apart unfit
      | inr unsplit ↦ apart_is_unequal nodes v a b apart unsplit.0
    ]
    | inr split ↦ elim amiss [
      | inl unfit ↦ equal_is_fit nodes v a b split.1.0 unfit
      | inr unsplit ↦ no_split_of nodes a b split.0 unsplit.1 split.1.1
    ]
  ]

  pub apart_unless : (judgement : Judgement) → ((form : FormData) → judgement ≡ judgements.Split form → ⊥)
      → PartsOnly nodes (AreFit nodes v) claim → IsJudged nodes v claim judgement → PartsOnly nodes (AreApart nodes v) claim
  apart_unless judgements.Silent other fit h = λ a b e int. absurd (h a b e int)
  apart_unless judgements.Unfit other fit h = λ a b e int. absurd (amiss_is_unfit h.0 h.1 (fit h.0 h.1 h.2 h.3) h.4)
  apart_unless (judgements.Split form) other fit h = λ a b e int. absurd (other form refl)
  apart_unless judgements.Apart other fit h = λ a b e int.
      same_two claim h.0 h.1 a b (AreApart nodes v) h.2 e h.4

  -- what is said of the two that it names is said of the claim
  pub judged_by : (a b : ℕ) (judgement : Judgement) → claim ≡ Differ a b → IsInt nodes a → AreJudged nodes v a b judgement
      → IsJudged nodes v claim judgement
  judged_by a b judgements.Silent e int h = absurd h
  judged_by a b judgements.Unfit e int h = (a, b, e, int, h)
  judged_by a b (judgements.Split form) e int h = (a, b, e, int, h)
  judged_by a b judgements.Apart e int h = (a, b, e, int, h)
