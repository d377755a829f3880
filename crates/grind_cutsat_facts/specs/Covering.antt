-- Which bounds say nothing new.
use Rattle.std.specs.Prelude.{◌≡◌, ◌⊎◌, ℕ, List, [], pos, ◌≤ℤ◌}
use Rattle.grind_linear_forms.specs.Forms.{FormData}
use Rattle.grind_differences.specs.Bounds.{IsOver}
use Rattle.grind_claims.specs.declared.claim.Claim.{Claim}
use Rattle.grind_claims.specs.declared.claim.Claim.TheVariants.{AtMost}
use Rattle.grind_cutsat_facts.specs.Facts.{IsSaid}
use Rattle.grind_cutsat_facts.specs.declared.facts.Fact.{Fact}

-- the claim bounds a form that has the same parts and a constant that is at least as great
abbrev pub Covers : Claim → FormData → Type 0
Covers claim form = (other : FormData) × (claim ≡ AtMost other) × IsOver form (pos 0) other

-- a fact covers the form
abbrev pub HasCover : List Fact → FormData → Type 0
HasCover facts form = (post : ℕ) × (claim : Claim) × IsSaid facts post claim × Covers claim form

-- that the form is at most 0 says nothing: it is a number of at most 0
abbrev pub SaysNothing : FormData → Type 0
SaysNothing form = (form.parts ≡ []) × (form.constant ≤ℤ pos 0)

-- the form is covered
abbrev pub IsCovered : List Fact → FormData → Type 0
IsCovered facts form = SaysNothing form ⊎ HasCover facts form
