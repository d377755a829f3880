-- From what the bounds leave, and from what is said of terms that differ, to the answer.
use Rattle.std.proofs.Common.{◌≡◌, ◌⊎◌, inl, inr, ℕ, List, All, Contains, ℤ, Option, Some, None, refl, sym, ap, ◌∙◌, subst}
use Rattle.std.specs.Prelude.{MatchOption}
use Rattle.std.proofs.lemmas.Option.{none-some, same_Some}
use Rattle.std.proofs.lemmas.List.Elements.{All-contains, All-contains_itself, All-weaker}
use Rattle.grind_term_graph.specs.declared.node.Node.{Node}
use Rattle.grind_linear_forms.specs.Forms.{FormData}
use Rattle.grind_claims.specs.declared.claim.Claim.{Claim}
use Rattle.grind_claims.specs.Claims.{IsFormed}
use Rattle.grind_claims.specs.declared.claim.Claim.TheVariants.{Differ}
use Rattle.grind_cutsat_facts.specs.declared.facts.Fact.{Fact}
use Rattle.grind_cutsat_facts.specs.Facts.{IsSaid}
use Rattle.grind_cutsat_assignment.specs.declared.outcome.Chosen.{Chosen}
use Rattle.grind_cutsat_assignment.specs.declared.outcome.Outcome.{Outcome}
use Rattle.grind_cutsat_assignment.specs.declared.outcome.Outcome.TheVariants as outcomes
use Rattle.grind_cutsat_assignment.specs.Given.{Given, given, Fits, SaysDiffer}
use Rattle.grind_cutsat_assignment.specs.Assignments.{chosen_value, AreRight, read_value, IsAssignment, NoAssignment, HasGap, IsUnfitBound, IsUnfitDiffer, MakesEqual, IsOutcome, IsFailure}
use Rattle.grind_cutsat_assignment.specs.Judgements.{AreUnfit, AreEqual, AreApart, Parts}
use Rattle.grind_cutsat_assignment.proofs.DifferLemmas.{apart_is_fit, equal_is_fit, apart_is_unequal}
use Rattle.grind_cutsat_splits.specs.declared.types.Verdict.TheVariants as verdicts
use Rattle.grind_differences.specs.Bounds.{HasOpposite}
use Rattle.grind_cutsat_splits.specs.Splits.{gap_form, IsSplitOf, HasNoSplit, IsDifferSplit, IsWantedSplit, IsUnsplit, IsUnfitPost, NoneUnfit, IsVerdict}
use Rattle.grind_cutsat_splits.specs.Alone.{AreBoundsOf, AreChosen, IsLeft, IsOrdered}
use Rattle.grind_cutsat_splits.specs.Judging.{AreAmiss, AreToSplit, PartsOnly, AreFit, SomeFact, EachFact}
use Rattle.grind_cutsat_splits.proofs.GapLemmas.{gap_is_inside, gap_has_opposite}
use Rattle.grind_cutsat_splits.proofs.JudgeLemmas.{no_split_of}
use Rattle.grind_cutsat_splits.proofs.RightLemmas.{chosen_to, gap_to, unfit_to, none_back, never_equal, no_unfit_bound, gap_without_values, gap_without_unfit, read_same}

-- the bounds fit the terms, as the facts do
pub bounds_fit : (it : Given) (bounds : List Fact) → AreBoundsOf it.facts bounds → Fits it → Fits (given bounds it.nodes it.lists)
bounds_fit it bounds are fits = record {
  formed = All-weaker (Contains bounds) (λ (fact : Fact). IsFormed it.nodes fact.claim)
      (λ fact has. All-contains (λ (fact : Fact). IsFormed it.nodes fact.claim) it.facts fact fits.formed (are.within fact.post fact.claim has))
      bounds (All-contains_itself bounds);
  within = fits.within;
}

-- what the bounds leave
pub left_by : (it : Given) (bounds : List Fact) → AreBoundsOf it.facts bounds → (outcome : Outcome)
    → IsOutcome (given bounds it.nodes it.lists) outcome
    → (IsFailure outcome → NoAssignment (given bounds it.nodes it.lists)) → IsLeft it outcome
left_by it bounds are (outcomes.Assigned list) h none = chosen_to it bounds are list h
left_by it bounds are (outcomes.Gap node floor) h none = (gap_to it bounds are node floor h, none_back it bounds are (none tt))
left_by it bounds are (outcomes.Unfit post) h none = elim h [
  | inl bound ↦ unfit_to it bounds are post bound
  | inr differ ↦ absurd (never_equal it bounds are post differ.1 differ.2 differ.4)
]
left_by it bounds are (outcomes.Equal post) h none = never_equal it bounds are post h.0 h.1 h.2.3

module _ (it : Given) (ordered : IsOrdered it) where
  -- where there is a gap, no post is unfit
  pub gap_none_unfit : (n : ℕ) (floor : ℤ) → HasGap it n floor → NoneUnfit it
  gap_none_unfit n floor gap post unfit = elim unfit [
    | inl bound ↦ gap_without_unfit it ordered n floor gap post bound
    | inr more ↦ elim more [
      | inl differ ↦ gap_without_values it ordered n floor gap differ.0 differ.3
      | inr unsplit ↦ gap_without_values it ordered n floor gap unsplit.2.0 unsplit.2.2
    ]
  ]

  pub gap_verdict : (n : ℕ) (floor : ℤ) (form : FormData) → HasGap it n floor → NoAssignment it → form ≡ gap_form n floor
      → IsVerdict it (verdicts.Split form)
  gap_verdict n floor form gap none e = (
    inl (n, floor, gap, e, subst HasOpposite (sym e) (gap_has_opposite n floor (gap_is_inside it ordered n floor gap))),
    none,
    gap_none_unfit n floor gap,
  )

  module _ (list : List Chosen) (are : AreChosen it list) where
    abbrev values : ℕ → ℤ
    values = chosen_value list

    equal_here : (v : ℕ → ℤ) (value : ℤ) (a b : ℕ) → AreRight it v → read_value it.nodes v a ≡ Some value → read_value it.nodes v b ≡ Some value
        → AreEqual it.nodes values a b
    equal_here v value a b right one other =
        (value, sym (read_same it ordered list are v right a) ∙ one, sym (read_same it ordered list are v right b) ∙ other)

    -- where each two that are said to differ fit, no post is unfit
    pub values_none_unfit : EachFact it.facts (PartsOnly it.nodes (AreFit it.nodes values)) → NoneUnfit it
    values_none_unfit each post unfit = elim unfit [
      | inl bound ↦ no_unfit_bound it ordered values are.right post bound
      | inr more ↦ elim more [
        | inl differ ↦ against_unfit differ.1 differ.2 (fit_at differ.1 differ.2 differ.4) (unfit_here differ.0 differ.1 differ.2 differ.3 differ.5)
        | inr unsplit ↦
            let makes = unsplit.2 in
            against_unsplit unsplit.0 unsplit.1 (fit_at unsplit.0 unsplit.1 makes.3)
            (equal_here makes.0 makes.1 unsplit.0 unsplit.1 makes.2 makes.4 makes.5) unsplit.3
      ]
    ]
      where
        fit_at : (a b : ℕ) → SaysDiffer it.facts it.nodes post a b → AreFit it.nodes values a b
        fit_at a b says = each post (Differ a b) says.0 a b refl says.1

        unfit_here : (v : ℕ → ℤ) (a b : ℕ) → AreRight it v
            → ((read_value it.nodes v a ≡ None) ⊎ (read_value it.nodes v b ≡ None)) → AreUnfit it.nodes values a b
        unfit_here v a b right none = elim none [
          | inl one ↦ inl (sym (read_same it ordered list are v right a) ∙ one)
          | inr other ↦ inr (sym (read_same it ordered list are v right b) ∙ other)
        ]

        against_unfit : (a b : ℕ) → AreFit it.nodes values a b → AreUnfit it.nodes values a b → ⊥
        against_unfit a b fit none = elim fit [
          | inl apart ↦ apart_is_fit it.nodes values a b apart none
          | inr split ↦ equal_is_fit it.nodes values a b split.1.0 none
        ]

        against_unsplit : (a b : ℕ) → AreFit it.nodes values a b → AreEqual it.nodes values a b → HasNoSplit it.nodes a b → ⊥
        against_unsplit a b fit same none = elim fit [
          | inl apart ↦ apart_is_unequal it.nodes values a b apart same
          | inr split ↦ no_split_of it.nodes a b split.0 none split.1.1
        ]

    says_of : (post : ℕ) (claim : Claim) (a b : ℕ) → IsSaid it.facts post claim → claim ≡ Differ a b → IsSaid it.facts post (Differ a b)
    says_of post claim a b said e = subst (λ (these : Claim). IsSaid it.facts post these) e said

    -- two that are amiss
    pub amiss_is_unfit : (post : ℕ) → SomeFact it.facts (λ claim. Parts it.nodes claim (AreAmiss it.nodes values)) post → IsUnfitPost it post
    amiss_is_unfit post h =
        let parts = h.2 in
        let says : SaysDiffer it.facts it.nodes post parts.0 parts.1 = (says_of post h.0 parts.0 parts.1 h.1 parts.2, parts.3) in
        elim parts.4 [
          | inl unfit ↦ inr (inl (values, parts.0, parts.1, are.right, says, unfit))
          | inr unsplit ↦ inr (inr (
            parts.0,
            parts.1,
            (values, unsplit.0.0, are.right, says, unsplit.0.1, unsplit.0.2),
            unsplit.1,
          ))
        ]

    -- two that are to be split
    module _ (form : FormData) (post : ℕ)
        (h : SomeFact it.facts (λ claim. Parts it.nodes claim (AreToSplit it.nodes values form)) post) where
      abbrev makes_equal : MakesEqual it post h.2.0 h.2.1
      makes_equal = (
        values,
        h.2.4.0.0,
        are.right,
        (says_of post h.0 h.2.0 h.2.1 h.1 h.2.2, h.2.3),
        h.2.4.0.1,
        h.2.4.0.2,
      )

      pub split_is_wanted : IsWantedSplit it form
      split_is_wanted = inr (post, h.2.0, h.2.1, makes_equal, h.2.4.1)

      pub split_without_assignment : NoAssignment it
      split_without_assignment = λ other is.
          let a = h.2.0 in
          let b = h.2.1 in
          let apart = is.values.apart post a b makes_equal.3 in
          let right : AreRight it (chosen_value other) = (is.values.right, is.values.elsewhere) in
          let one = read_same it ordered list are (chosen_value other) right a in
          let two = read_same it ordered list are (chosen_value other) right b in
          apart.4 (same_Some apart.0 makes_equal.1 (sym apart.2 ∙ one ∙ makes_equal.4)
          ∙ same_Some makes_equal.1 apart.1 (sym makes_equal.5 ∙ sym two ∙ apart.3))

    -- where each two that are said to differ are apart, the list is the assignment
    pub all_apart : EachFact it.facts (PartsOnly it.nodes (AreApart it.nodes values)) → IsAssignment it list
    all_apart each = record {
      rise = are.rise;
      atoms = are.atoms;
      values = record {
        right = are.right.0;
        elsewhere = are.right.1;
        apart = λ post a b says. each post (Differ a b) says.0 a b refl says.1;
      };
    }

    -- ---- what the walks along the facts told
    abbrev TellsUnfit : List Fact → List Chosen → Option ℕ → Type 0
    TellsUnfit facts these found =
        MatchOption found (EachFact facts (PartsOnly it.nodes (AreFit it.nodes (chosen_value these))))
        (λ post. SomeFact facts (λ claim. Parts it.nodes claim (AreAmiss it.nodes (chosen_value these))) post)

    abbrev TellsSplit : List Fact → List Chosen → Option FormData → Type 0
    TellsSplit facts these found =
        MatchOption found (EachFact facts (PartsOnly it.nodes (AreApart it.nodes (chosen_value these))))
        (λ form. (post : ℕ) × SomeFact facts (λ claim. Parts it.nodes claim (AreToSplit it.nodes (chosen_value these) form)) post)

    module _ (facts : List Fact) (these : List Chosen) (same_facts : facts ≡ it.facts) (same_list : these ≡ list) where
      pub unfit_verdict : (found : Option ℕ) (post : ℕ) → TellsUnfit facts these found → found ≡ Some post
          → IsVerdict it (verdicts.Unfit post)
      unfit_verdict found post told is =
          let here = subst (λ (xs : List Fact). TellsUnfit xs these found) same_facts told in
          let now = subst (λ (xs : List Chosen). TellsUnfit it.facts xs found) same_list here in
          amiss_is_unfit post (subst (λ (these : Option ℕ). TellsUnfit it.facts list these) is now)

      pub all_fit : (found : Option ℕ) → TellsUnfit facts these found → found ≡ None
          → EachFact it.facts (PartsOnly it.nodes (AreFit it.nodes values))
      all_fit found told is =
          let here = subst (λ (xs : List Fact). TellsUnfit xs these found) same_facts told in
          let now = subst (λ (xs : List Chosen). TellsUnfit it.facts xs found) same_list here in
          subst (λ (these : Option ℕ). TellsUnfit it.facts list these) is now

      pub split_verdict : (found : Option FormData) (form : FormData) → TellsSplit facts these found → found ≡ Some form
          → EachFact it.facts (PartsOnly it.nodes (AreFit it.nodes values)) → IsVerdict it (verdicts.Split form)
      split_verdict found form told is fit =
          let here = subst (λ (xs : List Fact). TellsSplit xs these found) same_facts told in
          let now = subst (λ (xs : List Chosen). TellsSplit it.facts xs found) same_list here in
          let some = subst (λ (these : Option FormData). TellsSplit it.facts list these) is now in
          (split_is_wanted form some.0 some.1, split_without_assignment form some.0 some.1, values_none_unfit fit)

      pub list_verdict : (found : Option FormData) → TellsSplit facts these found → found ≡ None
          → EachFact it.facts (PartsOnly it.nodes (AreFit it.nodes values)) → IsVerdict it (verdicts.Assigned list)
      list_verdict found told is fit =
          let here = subst (λ (xs : List Fact). TellsSplit xs these found) same_facts told in
          let now = subst (λ (xs : List Chosen). TellsSplit it.facts xs found) same_list here in
          let each = subst (λ (these : Option FormData). TellsSplit it.facts list these) is now in
          (all_apart each, values_none_unfit fit)
