-- Two bounds whose combination does not fit.
use Rattle.std.proofs.Common.{◌≡◌, ◌⊎◌, inl, inr, ◌↔◌, ℕ, List, [], ◌∷◌, Bool, Option, Some, None, ℤ, pos, ◌<ℤ◌, IsTrue, FitsSigned, refl, sym, ap, ◌∙◌, subst}
use Rattle.std.specs.Prelude.{MatchOption}
use Rattle.std.specs.Int.{w128}
use Rattle.std.proofs.lemmas.Option.{none-some, same_Some}
use Rattle.grind_linear_forms.specs.declared.form.Part.{Part}
use Rattle.grind_linear_forms.specs.Forms.{FormData, number_form}
use Rattle.grind_arithmetic_rules.specs.LinearRules.{combined}
use Rattle.grind_claims.specs.declared.claim.Claim.{Claim}
use Rattle.grind_claims.specs.declared.claim.Claim.TheVariants.{AtMost}
use Rattle.grind_cutsat_facts.specs.declared.facts.Fact.{Fact}
use Rattle.grind_cutsat_facts.specs.Facts.{IsSaid}
use Rattle.grind_cutsat_bounds.specs.Bounds.{Bound, bound_form}
use Rattle.grind_cutsat_assignment.specs.Given.{Given}
use Rattle.grind_cutsat_units.specs.Cuts.{IsDivisor, AreFactors, FailToCombine, both, AreUnresolved}
use Rattle.grind_cutsat_cuts.specs.Factors.{AreFittingFactors, HaveUnfitFactors}
use Rattle.grind_cutsat_cuts.specs.Resolving.{AreOpposite, AreNotOpposite}
use Rattle.grind_cutsat_cuts.proofs.FactorLemmas.{factors_once}
use Rattle.grind_cutsat_cuts.proofs.ResolveLemmas.{opposite_once, bound_at}
use Rattle.grind_cutsat_evidence.specs.Unread.{HasUnfitDivisor}
use Rattle.grind_cutsat_evidence.specs.Pairs.{FailBy, DoNotResolve, IsUnresolvedWith, IsUnresolvedBy}

pub iff_via : {A B C : Type 0} → A ↔ B → B ↔ C → A ↔ C
iff_via one other = (λ a. other.0 (one.0 a), λ c. one.1 (other.1 c))

-- ---- a sum of premises
pub fails_without_sum : (factors : List ℤ) (premises : List Claim) → combined (number_form (pos 0)) factors premises ≡ None → FailToCombine factors premises
fails_without_sum factors premises none = inl none

pub fails_by_divisor : (factors : List ℤ) (premises : List Claim) (sum : FormData) → combined (number_form (pos 0)) factors premises ≡ Some sum
    → HasUnfitDivisor sum.parts ↔ FailToCombine factors premises
fails_by_divisor factors premises sum is = (
  λ h. inr (sum, h.0, is, h.1, h.2),
  λ h. elim h [
    | inl none ↦ absurd (none-some sum (sym none ∙ is))
    | inr unfit ↦
        let same : unfit.0 ≡ sum = same_Some unfit.0 sum (sym unfit.2 ∙ is) in
        (unfit.1, subst (λ (it : FormData). IsDivisor it.parts unfit.1) same unfit.3, unfit.4)
  ],
)

-- ---- two bounds
module _ (upper lower : FormData) (over under : ℤ) where
  pub fail_by_factors : HaveUnfitFactors over under → FailBy upper lower over under
  fail_by_factors h = (h.0, h.1, h.2, elim h.3 [ inl first ↦ inl first | inr second ↦ inr (inl second) ])

  pub fail_by_sum : (m k : ℤ) → under <ℤ pos 0 → AreFittingFactors over under m k
      → FailToCombine (m ∷ k ∷ []) (AtMost upper ∷ AtMost lower ∷ []) ↔ FailBy upper lower over under
  fail_by_sum m k negative are = (
    λ h. (m, k, are.0, inr (inr h)),
    λ h.
        let same = factors_once over under h.0 h.1 m k negative h.2 are.0 in elim h.3 [
          | inl first ↦ absurd (first (subst (FitsSigned w128) (sym same.0) are.1))
          | inr more ↦ elim more [
            | inl second ↦ absurd (second (subst (FitsSigned w128) (sym same.1) are.2))
            | inr fails ↦ subst (λ (z : ℤ). FailToCombine (m ∷ z ∷ []) (AtMost upper ∷ AtMost lower ∷ [])) same.1
                (subst (λ (z : ℤ). FailToCombine (z ∷ h.1 ∷ []) (AtMost upper ∷ AtMost lower ∷ [])) same.0 fails)
          ]
        ],
  )

  pub by_leads : AreOpposite upper lower over under → FailBy upper lower over under ↔ DoNotResolve upper lower
  by_leads are = (
    λ h. (over, under, are, h),
    λ h.
        let same = opposite_once upper lower h.0 h.1 over under h.2 are in
        subst (λ (z : ℤ). FailBy upper lower over z) same.1 (subst (λ (z : ℤ). FailBy upper lower z h.1) same.0 h.3),
  )

pub none_by_leads : (upper lower : FormData) → AreNotOpposite upper lower → ¬ DoNotResolve upper lower
none_by_leads upper lower none = λ h. none h.0 h.1 h.2

-- ---- claims
abbrev form_in : Claim → FormData
form_in (AtMost form) = form
form_in _ = number_form (pos 0)

pub at_lower : (upper lower : FormData) (claim : Claim) → claim ≡ AtMost lower → DoNotResolve upper lower ↔ IsUnresolvedWith upper claim
at_lower upper lower claim is = (
  λ h. (lower, is, h),
  λ h. subst (λ (it : FormData). DoNotResolve upper it) (ap form_in (sym h.1 ∙ is)) h.2,
)

module _ (facts : List Fact) (claim : Claim) (upper : FormData) (is : claim ≡ AtMost upper) where
  pub at_upper : (found : Option ℕ)
      → MatchOption found ((post : ℕ) (other : Claim) → IsSaid facts post other → ¬ IsUnresolvedWith upper other)
      (λ post. (other : Claim) × IsSaid facts post other × IsUnresolvedWith upper other)
      → MatchOption found ((below : ℕ) → ¬ IsUnresolvedBy facts below claim) (λ below. IsUnresolvedBy facts below claim)
  at_upper None none = λ below h.
      none below h.2 h.3 (subst (λ (it : FormData). IsUnresolvedWith it h.2) (ap form_in (sym h.1 ∙ is)) h.4)
  at_upper (Some below) h = (upper, is, h.0, h.1, h.2)

-- ---- the same, told by the bounds of an atom
module _ (it : Given) where
  pub unresolved_at : (above below : ℕ) (claim : Claim) → IsSaid it.facts above claim → IsUnresolvedBy it.facts below claim
      → AreUnresolved it above below
  unresolved_at above below claim said h =
      let with = h.4 in
      let fails = with.2 in
      let opposite = fails.2 in
      let upper = bound_at h.0 opposite.atom fails.0 opposite.upper_is in
      let lower = bound_at with.0 opposite.atom fails.1 opposite.lower_is in
      let said_above : IsSaid it.facts above (AtMost h.0) = subst (λ (these : Claim). IsSaid it.facts above these) h.1 said in
      let said_below : IsSaid it.facts below (AtMost with.0) = subst (λ (these : Claim). IsSaid it.facts below these) with.1 h.3 in
      let claims : AtMost h.0 ∷ AtMost with.0 ∷ [] ≡ both opposite.atom upper.0 lower.0 =
      ap (λ (form : FormData). AtMost form ∷ AtMost with.0 ∷ []) upper.1
      ∙ ap (λ (form : FormData). AtMost (bound_form opposite.atom upper.0) ∷ AtMost form ∷ []) lower.1 in
      let by = fails.3 in (
        opposite.atom,
        upper.0,
        lower.0,
        by.0,
        by.1,
        record {
          upper_is = subst (λ (form : FormData). IsSaid it.facts above (AtMost form)) upper.1 said_above;
          lower_is = subst (λ (form : FormData). IsSaid it.facts below (AtMost form)) lower.1 said_below;
          over = subst (λ (z : ℤ). pos 0 <ℤ z) (sym upper.2) opposite.positive;
          under = subst (λ (z : ℤ). z <ℤ pos 0) (sym lower.2) opposite.negative;
          factors =
              subst (λ (z : ℤ). AreFactors z lower.0.coefficient by.0 by.1) (sym upper.2)
              (subst (λ (z : ℤ). AreFactors fails.0 z by.0 by.1) (sym lower.2) by.2);
        },
        elim by.3 [
          | inl first ↦ inl first
          | inr more ↦ elim more [
            | inl second ↦ inr (inl second)
            | inr combine ↦ inr (inr (subst (λ (all : List Claim). FailToCombine (by.0 ∷ by.1 ∷ []) all) claims combine))
          ]
        ],
      )

  pub claim_above : (above below : ℕ) → AreUnresolved it above below → (claim : Claim) × IsSaid it.facts above claim × IsUnresolvedBy it.facts below claim
  claim_above above below h =
      let are = h.5 in
      let upper = bound_form h.0 h.1 in
      let lower = bound_form h.0 h.2 in
      let opposite : AreOpposite upper lower h.1.coefficient h.2.coefficient = record {
        atom = h.0;
        upper_is = (refl, refl);
        lower_is = (refl, refl);
        positive = are.over;
        negative = are.under;
      } in (
        AtMost upper,
        are.upper_is,
        (
          upper,
          refl,
          AtMost lower,
          are.lower_is,
          (
            lower,
            refl,
            (
              h.1.coefficient,
              h.2.coefficient,
              opposite,
              (h.3, h.4, are.factors, h.6),
            ),
          ),
        ),
      )
