-- What the drafts of a case rest on.
use Rattle.std.proofs.Common.{◌≡◌, ◌≢◌, ◌⊎◌, inl, inr, ℕ, List, [], ◌∷◌, ◌++◌, Option, Some, None, ℤ, pos, refl, sym, ap, ◌∙◌, subst}
use Rattle.std.specs.Prelude.{MatchOption}
use Rattle.grind_linear_forms.specs.Forms.{FormData}
use Rattle.grind_claims.specs.declared.claim.Claim.{Claim}
use Rattle.grind_claims.specs.declared.claim.Claim.TheVariants.{AtMost}
use Rattle.grind_claims.specs.declared.proof.Rule.{Rule}
use Rattle.grind_claims.specs.declared.proof.Rule.TheVariants.{Combine}
use Rattle.grind_cutsat_facts.specs.declared.facts.Fact.{Fact}
use Rattle.grind_cutsat_facts.specs.Facts.{IsSaid, Stands}
use Rattle.grind_cutsat_bounds.specs.Bounds.{bound_form}
use Rattle.grind_cutsat_assignment.specs.Given.{Given}
use Rattle.grind_cutsat_units.specs.declared.types.Planned.{Planned}
use Rattle.grind_cutsat_units.specs.declared.types.Draft.{Draft}
use Rattle.grind_cutsat_units.specs.Posts.{planned, draft_of, AreSaid, AllStand, NoCase, HasCase, IsCaseOf}
use Rattle.grind_cutsat_units.specs.Equations.{ReadsEquation}
use Rattle.grind_cutsat_units.specs.Cuts.{CutsBound, ResolvesBounds, both}
use Rattle.grind_cutsat_evidence.specs.declared.pairs.Pair.{Pair}
use Rattle.grind_cutsat_evidence.specs.Evidence.{HasNew, IsLeftAlone, AreLeftTogether, AreLeft}
use Rattle.grind_cutsat_evidence.specs.Pairs.{RestsOn, RestsOnTwo}

-- one post that is drafted
record IsOne (facts : List Fact) (it : Planned) (drafts : List Draft) : Type 0 where
  new : ¬ Stands facts it.claim
  from : List ℕ
  is : drafts ≡ draft_of it from ∷ []
  said : AreSaid facts from it.premises

one_of : (facts : List Fact) (next : ℕ) (it : Planned) (drafts : List Draft) → IsCaseOf facts next (it ∷ []) drafts → IsOne facts it drafts
one_of facts next it drafts case = elim case.0 [
  | inl stands ↦ absurd (case.1 stands.1)
  | inr put ↦ record {
    new = put.0;
    from = put.1;
    is = put.3 ∙ ap (λ (others : List Draft). draft_of it put.1 ∷ others) put.5;
    said = put.4;
  }
]

first_from : List Draft → List ℕ
first_from [] = []
first_from (draft ∷ more) = draft.from

-- the posts on which a draft of one premise rests
module _ (facts : List Fact) (next : ℕ) (claim premise : Claim) (rule : Rule) (drafts : List Draft)
    (case : IsCaseOf facts next (planned claim rule (premise ∷ []) ∷ []) drafts) where
  abbrev one : IsOne facts (planned claim rule (premise ∷ [])) drafts
  one = one_of facts next (planned claim rule (premise ∷ [])) drafts case

  pub rests_on : (post : ℕ) × RestsOn drafts post
  rests_on = by_from one.from one.is one.said
    where
      by_from : (from : List ℕ) → drafts ≡ draft_of (planned claim rule (premise ∷ [])) from ∷ [] → AreSaid facts from (premise ∷ [])
          → (post : ℕ) × RestsOn drafts post
      by_from [] is said = absurd said
      by_from (post ∷ others) is said = (post, (draft_of (planned claim rule (premise ∷ [])) (post ∷ others), [], others, is, refl))

  pub rests_on_premise : (post : ℕ) → RestsOn drafts post → IsSaid facts post premise
  unfolding first_from
  rests_on_premise post rests =
      let from : one.from ≡ post ∷ rests.2 = ap first_from (sym one.is ∙ rests.3) ∙ rests.4 in
      (subst (λ (these : List ℕ). AreSaid facts these (premise ∷ [])) from one.said).0

  pub something_new : AllStand facts (planned claim rule (premise ∷ []) ∷ []) → ⊥
  something_new all = one.new all.0

-- and those on which one of two premises rests
module _ (facts : List Fact) (next : ℕ) (claim first second : Claim) (rule : Rule) (drafts : List Draft)
    (case : IsCaseOf facts next (planned claim rule (first ∷ second ∷ []) ∷ []) drafts) where
  abbrev two : IsOne facts (planned claim rule (first ∷ second ∷ [])) drafts
  two = one_of facts next (planned claim rule (first ∷ second ∷ [])) drafts case

  pub rests_on_two : (a : ℕ) × (b : ℕ) × RestsOnTwo drafts a b
  rests_on_two = by_from two.from two.is two.said
    where
      by_from : (from : List ℕ) → drafts ≡ draft_of (planned claim rule (first ∷ second ∷ [])) from ∷ []
          → AreSaid facts from (first ∷ second ∷ []) → (a : ℕ) × (b : ℕ) × RestsOnTwo drafts a b
      by_from [] is said = absurd said
      by_from (a ∷ []) is said = absurd said.1
      by_from (a ∷ b ∷ others) is said =
          (a, b, (draft_of (planned claim rule (first ∷ second ∷ [])) (a ∷ b ∷ others), [], others, is, refl))

  pub two_premises : (a b : ℕ) → RestsOnTwo drafts a b → IsSaid facts a first × IsSaid facts b second
  unfolding first_from
  two_premises a b rests =
      let from : two.from ≡ a ∷ b ∷ rests.2 = ap first_from (sym two.is ∙ rests.3) ∙ rests.4 in
      let said = subst (λ (these : List ℕ). AreSaid facts these (first ∷ second ∷ [])) from two.said in
      (said.0, said.1.0)

  pub something_new_of_two : AllStand facts (planned claim rule (first ∷ second ∷ []) ∷ []) → ⊥
  something_new_of_two all = two.new all.0

-- ---- the units
module _ (it : Given) (next : ℕ) (drafts : List Draft) where
  -- an equation that can be read
  module _ (h : HasCase it.facts next (λ posts. (post : ℕ) × ReadsEquation it post posts) drafts) where
    abbrev equation : ReadsEquation it h.1.0 h.0
    equation = h.1.1

    equation_case : IsCaseOf it.facts next
        (planned (AtMost equation.2.2.1) (Combine (pos 1) (equation.2.0 ∷ [])) (equation.0 ∷ []) ∷ []) drafts
    equation_case = subst (λ (posts : List Planned). IsCaseOf it.facts next posts drafts) equation.2.2.4 h.2

    pub equation_rests : (post : ℕ) × RestsOn drafts post
    equation_rests =
        rests_on it.facts next (AtMost equation.2.2.1) equation.0 (Combine (pos 1) (equation.2.0 ∷ [])) drafts equation_case

    pub equation_left : (post : ℕ) → RestsOn drafts post → IsLeftAlone it post
    equation_left post rests = (
      h.0,
      inl (
        equation.0,
        rests_on_premise it.facts next (AtMost equation.2.2.1) equation.0 (Combine (pos 1) (equation.2.0 ∷ [])) drafts
            equation_case post rests,
        equation.2,
      ),
      λ all. something_new it.facts next (AtMost equation.2.2.1) equation.0 (Combine (pos 1) (equation.2.0 ∷ [])) drafts equation_case
          (subst (λ (posts : List Planned). AllStand it.facts posts) equation.2.2.4 all),
    )

  -- a bound that can be cut
  module _ (h : HasCase it.facts next (λ posts. (post : ℕ) × CutsBound it post posts) drafts) where
    abbrev cut : CutsBound it h.1.0 h.0
    cut = h.1.1

    cut_case : IsCaseOf it.facts next (planned (AtMost cut.1) (Combine cut.2 (pos 1 ∷ [])) (AtMost cut.0 ∷ []) ∷ []) drafts
    cut_case = subst (λ (posts : List Planned). IsCaseOf it.facts next posts drafts) cut.7 h.2

    pub cut_rests : (post : ℕ) × RestsOn drafts post
    cut_rests = rests_on it.facts next (AtMost cut.1) (AtMost cut.0) (Combine cut.2 (pos 1 ∷ [])) drafts cut_case

    pub cut_left : (post : ℕ) → RestsOn drafts post → IsLeftAlone it post
    cut_left post rests = (
      h.0,
      inr (
        cut.0,
        cut.1,
        cut.2,
        rests_on_premise it.facts next (AtMost cut.1) (AtMost cut.0) (Combine cut.2 (pos 1 ∷ [])) drafts cut_case post rests,
        cut.4,
        cut.5,
        cut.6,
        cut.7,
      ),
      λ all. something_new it.facts next (AtMost cut.1) (AtMost cut.0) (Combine cut.2 (pos 1 ∷ [])) drafts cut_case
          (subst (λ (posts : List Planned). AllStand it.facts posts) cut.7 all),
    )

  -- two bounds that can be resolved
  module _ (h : HasCase it.facts next (λ posts. (above : ℕ) × (below : ℕ) × ResolvesBounds it above below posts) drafts) where
    abbrev pair : ResolvesBounds it h.1.0 h.1.1 h.0
    pair = h.1.2

    abbrev upper : Claim
    upper = AtMost (bound_form pair.0 pair.1)

    abbrev lower : Claim
    lower = AtMost (bound_form pair.0 pair.2)

    abbrev rule : Rule
    rule = Combine pair.5 (pair.3 ∷ pair.4 ∷ [])

    pair_case : IsCaseOf it.facts next (planned (AtMost pair.6) rule (upper ∷ lower ∷ []) ∷ []) drafts
    pair_case = subst (λ (posts : List Planned). IsCaseOf it.facts next posts drafts) pair.12 h.2

    pub pair_rests : (a : ℕ) × (b : ℕ) × RestsOnTwo drafts a b
    pair_rests = rests_on_two it.facts next (AtMost pair.6) upper lower rule drafts pair_case

    pub pair_left : (a b : ℕ) → RestsOnTwo drafts a b → AreLeftTogether it a b
    pair_left a b rests =
        let said = two_premises it.facts next (AtMost pair.6) upper lower rule drafts pair_case a b rests in
        let are = pair.7 in (
          h.0,
          (
            pair.0,
            pair.1,
            pair.2,
            pair.3,
            pair.4,
            pair.5,
            pair.6,
            record {
              upper_is = said.0;
              lower_is = said.1;
              over = are.over;
              under = are.under;
              factors = are.factors;
            },
            pair.8,
            pair.9,
            pair.10,
            pair.11,
            pair.12,
          ),
          λ all. something_new_of_two it.facts next (AtMost pair.6) upper lower rule drafts pair_case
              (subst (λ (posts : List Planned). AllStand it.facts posts) pair.12 all),
        )

module _ (it : Given) where
  pub none_left_alone : NoCase it.facts (λ posts. (post : ℕ) × ReadsEquation it post posts)
      → NoCase it.facts (λ posts. (post : ℕ) × CutsBound it post posts) → (post : ℕ) → ¬ IsLeftAlone it post
  none_left_alone equations cuts post = λ h. elim h.1 [
    | inl equation ↦ h.2 (equations h.0 (post, equation))
    | inr cut ↦ h.2 (cuts h.0 (post, cut))
  ]

  pub none_left_together : NoCase it.facts (λ posts. (above : ℕ) × (below : ℕ) × ResolvesBounds it above below posts)
      → (above below : ℕ) → ¬ AreLeftTogether it above below
  none_left_together pairs above below = λ h. h.2 (pairs h.0 (above, below, h.1))

  pub none_left : ((post : ℕ) → ¬ IsLeftAlone it post) → ((above below : ℕ) → ¬ AreLeftTogether it above below)
      → (first second : ℕ) → ¬ AreLeft it first second
  none_left alone together first second = λ h. elim h [
    | inl one ↦ alone first one.1
    | inr two ↦ together first second two
  ]

  pub left_by : ((post : ℕ) → ¬ IsLeftAlone it post) → (found : Option Pair)
      → MatchOption found ((above below : ℕ) → ¬ AreLeftTogether it above below) (λ pair. AreLeftTogether it pair.first pair.second)
      → MatchOption found ((first second : ℕ) → ¬ AreLeft it first second) (λ pair. AreLeft it pair.first pair.second)
  left_by alone None none = none_left alone none
  left_by alone (Some pair) has = inr has
