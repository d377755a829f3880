-- The bounds of an atom at values of the greater atoms. The lead of a form is its node with the lowest number, so the other
-- nodes of a form are greater atoms.
use Rattle.std.specs.Prelude.{◌≡◌, ℕ, List, ◌∷◌, Option, Some, None, ℤ, pos, ◌+ℤ◌, ◌*ℤ◌, ◌≤ℤ◌, ◌<ℤ◌}
use Rattle.grind_linear_forms.specs.declared.form.Part.{Part}
use Rattle.grind_linear_forms.specs.Forms.{FormData, form_data, part_of}
use Rattle.grind_claims.specs.declared.claim.Claim.{Claim}
use Rattle.grind_claims.specs.declared.claim.Claim.TheVariants.{AtMost}
use Rattle.grind_cutsat_facts.specs.Facts.{IsSaid}
use Rattle.grind_cutsat_facts.specs.declared.facts.Fact.{Fact}
use Rattle.grind_cutsat_bounds.specs.Evaluations.{evaluated}

-- a bound of an atom: how often the atom is taken, the parts of greater atoms, and the constant
pub record Bound : Type 0 where
  pub coefficient : ℤ
  pub greater : List Part
  pub constant : ℤ

-- the form that is at most 0, the atom in front
abbrev pub bound_form : ℕ → Bound → FormData
bound_form x bound = form_data (part_of x bound.coefficient ∷ bound.greater) bound.constant

-- the claim is a bound of the atom
abbrev pub ClaimsBound : Claim → ℕ → Bound → Type 0
ClaimsBound claim x bound = claim ≡ AtMost (bound_form x bound)

-- a fact is a bound of the atom
abbrev pub IsBound : List Fact → ℕ → ℕ → Bound → Type 0
IsBound facts x post bound = IsSaid facts post (AtMost (bound_form x bound))

-- what constant and greater atoms come to at these values, where that fits
abbrev pub rest_at : (ℕ → ℤ) → Bound → Option ℤ
rest_at v bound = evaluated v bound.constant bound.greater

-- the bound lets the atom have this value: the form is at most 0 then
abbrev pub Allows : (ℕ → ℤ) → Bound → ℤ → Type 0
Allows v bound number = (rest : ℤ) × (rest_at v bound ≡ Some rest) × ((bound.coefficient *ℤ number +ℤ rest) ≤ℤ pos 0)

-- every bound of the atom lets it have this value
abbrev pub IsBetween : (ℕ → ℤ) → List Fact → ℕ → ℤ → Type 0
IsBetween v facts x number = (post : ℕ) (bound : Bound) → IsBound facts x post bound → Allows v bound number

-- every upper bound does
abbrev pub IsBelow : (ℕ → ℤ) → List Fact → ℕ → ℤ → Type 0
IsBelow v facts x number =
    (post : ℕ) (bound : Bound) → IsBound facts x post bound → pos 0 <ℤ bound.coefficient → Allows v bound number

-- every bound of the atom fits when it is evaluated
abbrev pub AllFit : (ℕ → ℤ) → List Fact → ℕ → Type 0
AllFit v facts x =
    (post : ℕ) (bound : Bound) → IsBound facts x post bound → (rest : ℤ) × (rest_at v bound ≡ Some rest)

-- the post is a bound of the atom that does not fit
abbrev pub IsUnfit : (ℕ → ℤ) → List Fact → ℕ → ℕ → Type 0
IsUnfit v facts x post = (bound : Bound) × IsBound facts x post bound × (rest_at v bound ≡ None)
