use Rattle.grind_linear_forms.specs.declared.form.Part.{Part}
use Rattle.grind_cutsat_evidence.specs.Unread.{HasUnfitDivisor}
use Rattle.std.proofs.Common.{◌≡◌, ◌↔◌, ◌⊎◌, inl, inr, ℕ, List, [], ◌∷◌, Option, Some, None, ℤ, IsTrue, pos, refl, sym, ap, ◌∙◌, subst}
use Rattle.std.proofs.lemmas.Bool.{false≢true}
use Rattle.grind_claims.specs.declared.claim.Claim.TheVariants.{AtMost}
use Rattle.grind_cutsat_evidence.proofs.PairLemmas.{fails_without_sum, fails_by_divisor}
use Rattle.grind_cutsat_evidence.proofs.unread.is_uncut.Goals as goal

pub returns-in_default : goal.returns-in_default
returns-in_default c =
    (λ yes. fails_without_sum (pos 1 ∷ []) (AtMost c.args.form.now ∷ []) (sym c.in_ok-found.ensures ∙ c.in_default.is), λ h. refl)

pub returns : goal.returns
returns c =
    let by = fails_by_divisor (pos 1 ∷ []) (AtMost c.args.form.now ∷ []) c.in-Some.sum (sym c.in_ok-found.ensures ∙ c.in-Some.is) in (
      λ yes. by.0 (subst (λ (parts : List Part). HasUnfitDivisor parts) c.parts.ensures.value (c.has_unfit_divisor.ensures.0 yes)),
      λ h. c.has_unfit_divisor.ensures.1 (subst (λ (parts : List Part). HasUnfitDivisor parts) (sym c.parts.ensures.value) (by.1 h)),
    )
