use Rattle.grind_linear_forms.specs.declared.form.Part.{Part}
use Rattle.grind_cutsat_evidence.specs.Unread.{HasUnfitDivisor}
use Rattle.std.proofs.lemmas.Int.{to_z-of_z}
use Rattle.std.specs.Int.{w128}
use Rattle.std.proofs.Common.{rules, FitsSigned, ◌≡◌, ◌↔◌, ◌⊎◌, inl, inr, ℕ, List, [], ◌∷◌, Option, Some, None, ℤ, IsTrue, pos, refl, sym, ap, ◌∙◌, subst}
use Rattle.std.proofs.lemmas.Bool.{false≢true}
use Rattle.grind_claims.specs.declared.claim.Claim.TheVariants.{AtMost}
use Rattle.grind_cutsat_evidence.proofs.PairLemmas.{fails_without_sum, fails_by_divisor}
use Rattle.grind_cutsat_evidence.proofs.pairs.fail_to_combine.Goals as goal

pub returns-in_default : goal.returns-in_default
returns-in_default c =
    let one : FitsSigned w128 c.args.factors.first = search rules in
    let two : FitsSigned w128 c.args.factors.second = search rules in
    let sum = simp (to_z-of_z w128 c.args.factors.first one, to_z-of_z w128 c.args.factors.second two) at c.in_ok-found.ensures in
    (λ yes. fails_without_sum (c.args.factors.first ∷ c.args.factors.second ∷ []) (AtMost c.args.upper.now ∷ AtMost c.args.lower.now ∷ []) (sym sum ∙ c.in_default.is), λ h. refl)

pub returns : goal.returns
returns c =
    let one : FitsSigned w128 c.args.factors.first = search rules in
    let two : FitsSigned w128 c.args.factors.second = search rules in
    let sum = simp (to_z-of_z w128 c.args.factors.first one, to_z-of_z w128 c.args.factors.second two) at c.in_ok-found.ensures in
    let by = fails_by_divisor (c.args.factors.first ∷ c.args.factors.second ∷ []) (AtMost c.args.upper.now ∷ AtMost c.args.lower.now ∷ []) c.in-Some.sum (sym sum ∙ c.in-Some.is) in (
      λ yes. by.0 (subst (λ (parts : List Part). HasUnfitDivisor parts) c.parts.ensures.value (c.has_unfit_divisor.ensures.0 yes)),
      λ h. c.has_unfit_divisor.ensures.1 (subst (λ (parts : List Part). HasUnfitDivisor parts) (sym c.parts.ensures.value) (by.1 h)),
    )
