-- Two active terms, in different classes, neither of which is over the other.
use Rattle.std.specs.Prelude.{◌≡◌, ◌⊎◌, ℕ, Some}
use Rattle.grind_linear_forms.specs.Forms.{FormData}
use Rattle.grind_differences.specs.Differences.{difference}
use Rattle.grind_classes.specs.Classes.{IsActive, AreTogether}
use Rattle.grind_claims.specs.declared.claim.Claim.TheVariants.{Same, AtMost}
use Rattle.grind_cutsat_facts.specs.Facts.{IsSaid, Stands}
use Rattle.grind_cutsat_assignment.specs.Given.{Given}

-- the two posts, perhaps one, bound the difference of the two, and the opposite difference
pub record AreBounded (it : Given) (a b above below : ℕ) (form other : FormData) : Type 0 where
  pub left : IsActive it.lists a
  pub right : IsActive it.lists b
  pub form_is : difference it.nodes a b ≡ Some form
  pub other_is : difference it.nodes b a ≡ Some other
  pub above_says : IsSaid it.facts above (AtMost form)
  pub below_says : IsSaid it.facts below (AtMost other)

-- and nothing says yet that they are equal
abbrev pub Pinches : Given → ℕ → ℕ → ℕ → ℕ → Type 0
Pinches it a b above below = (form : FormData) × (other : FormData) × AreBounded it a b above below form other
    × (AreTogether it.lists a b → ⊥) × (Stands it.facts (Same a b) → ⊥)

-- no two are
abbrev pub NonePinched : Given → Type 0
NonePinched it = (a b above below : ℕ) (form other : FormData) → AreBounded it a b above below form other
    → AreTogether it.lists a b ⊎ Stands it.facts (Same a b)
