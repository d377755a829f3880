-- What is kept while pairs of terms are looked at. No public clause cites these words.
use Rattle.std.specs.Prelude.{◌≡◌, ◌⊎◌, ℕ, ◌<◌, Some}
use Rattle.grind_linear_forms.specs.Forms.{FormData}
use Rattle.grind_differences.specs.Differences.{difference}
use Rattle.grind_classes.specs.Classes.{IsActive, AreTogether}
use Rattle.grind_claims.specs.declared.claim.Claim.TheVariants.{Same, AtMost}
use Rattle.grind_cutsat_facts.specs.Facts.{IsSaid, Stands}
use Rattle.grind_cutsat_assignment.specs.Given.{Given}
use Rattle.grind_cutsat_units.specs.Pinches.{AreBounded}

-- the two are active, in different classes, and no post says that they are equal
pub record IsNewPair (it : Given) (a b : ℕ) : Type 0 where
  pub left : IsActive it.lists a
  pub right : IsActive it.lists b
  pub apart : AreTogether it.lists a b → ⊥
  pub unsaid : Stands it.facts (Same a b) → ⊥

-- where the two are active, they are in one class, or a post says that they are equal
abbrev pub IsKnownPair : Given → ℕ → ℕ → Type 0
IsKnownPair it a b = IsActive it.lists a → IsActive it.lists b → AreTogether it.lists a b ⊎ Stands it.facts (Same a b)

-- the post bounds the difference of the two
abbrev pub BoundsDifference : Given → ℕ → ℕ → ℕ → Type 0
BoundsDifference it a b post = (form : FormData) × (difference it.nodes a b ≡ Some form) × IsSaid it.facts post (AtMost form)

-- the two are bounded by posts only where they are together, or said to be equal
abbrev pub IsUnpinched : Given → ℕ → ℕ → Type 0
IsUnpinched it a b = (above below : ℕ) (form other : FormData) → AreBounded it a b above below form other
    → AreTogether it.lists a b ⊎ Stands it.facts (Same a b)

-- so it is of this one and each below that number
abbrev pub AreUnpinched : Given → ℕ → ℕ → Type 0
AreUnpinched it a count = (b : ℕ) → b < count → IsUnpinched it a b
