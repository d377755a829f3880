-- Two bounds whose combination does not fit, and the first premises of drafts. No public clause cites these words.
use Rattle.std.specs.Prelude.{◌≡◌, ◌⊎◌, ℕ, List, [], ◌∷◌, ℤ, FitsSigned}
use Rattle.std.specs.Int.{w128}
use Rattle.grind_linear_forms.specs.Forms.{FormData}
use Rattle.grind_claims.specs.declared.claim.Claim.{Claim}
use Rattle.grind_claims.specs.declared.claim.Claim.TheVariants.{AtMost}
use Rattle.grind_cutsat_facts.specs.declared.facts.Fact.{Fact}
use Rattle.grind_cutsat_facts.specs.Facts.{IsSaid}
use Rattle.grind_cutsat_units.specs.declared.types.Draft.{Draft}
use Rattle.grind_cutsat_units.specs.Cuts.{AreFactors, FailToCombine}
use Rattle.grind_cutsat_cuts.specs.Resolving.{AreOpposite}

-- the least factors of the two, or what they come to, do not fit
abbrev pub FailBy : FormData → FormData → ℤ → ℤ → Type 0
FailBy upper lower over under = (m : ℤ) × (k : ℤ) × AreFactors over under m k
    × ((FitsSigned w128 m → ⊥) ⊎ ((FitsSigned w128 k → ⊥) ⊎ FailToCombine (m ∷ k ∷ []) (AtMost upper ∷ AtMost lower ∷ [])))

-- the two are led by one atom with opposite signs, and their combination does not fit
abbrev pub DoNotResolve : FormData → FormData → Type 0
DoNotResolve upper lower = (over : ℤ) × (under : ℤ) × AreOpposite upper lower over under × FailBy upper lower over under

-- the claim is a bound that does not resolve with the form
abbrev pub IsUnresolvedWith : FormData → Claim → Type 0
IsUnresolvedWith upper claim = (lower : FormData) × (claim ≡ AtMost lower) × DoNotResolve upper lower

-- the claim is a bound that does not resolve with the bound at this post
abbrev pub IsUnresolvedBy : List Fact → ℕ → Claim → Type 0
IsUnresolvedBy facts below claim = (upper : FormData) × (claim ≡ AtMost upper)
    × (other : Claim) × IsSaid facts below other × IsUnresolvedWith upper other

-- the first draft rests first on this post
abbrev pub RestsOn : List Draft → ℕ → Type 0
RestsOn drafts post = (draft : Draft) × (more : List Draft) × (others : List ℕ) × (drafts ≡ draft ∷ more) × (draft.from ≡ post ∷ others)

-- and then on this one
abbrev pub RestsOnTwo : List Draft → ℕ → ℕ → Type 0
RestsOnTwo drafts first second = (draft : Draft) × (more : List Draft) × (others : List ℕ)
    × (drafts ≡ draft ∷ more) × (draft.from ≡ first ∷ second ∷ others)
