-- The bounds among the facts, by themselves, and what they leave. No public clause cites these words.
use Rattle.std.specs.Prelude.{◌≡◌, ◌⊎◌, ◌↔◌, ℕ, ◌<◌, List, [], ◌∷◌, ◌++◌, ℤ, pos, ◌+ℤ◌, neg_ℤ, length, FitsSigned}
use Rattle.std.specs.Int.{w128}
use Rattle.grind_linear_forms.specs.Forms.{FormData, IsForm}
use Rattle.grind_claims.specs.declared.claim.Claim.{Claim}
use Rattle.grind_claims.specs.declared.claim.Claim.TheVariants.{AtMost}
use Rattle.grind_cutsat_facts.specs.declared.facts.Fact.{Fact}
use Rattle.grind_cutsat_facts.specs.Facts.{IsSaid}
use Rattle.grind_cutsat_assignment.specs.declared.outcome.Chosen.{Chosen}
use Rattle.grind_cutsat_assignment.specs.declared.outcome.Outcome.{Outcome}
use Rattle.grind_cutsat_assignment.specs.declared.outcome.Outcome.TheVariants as outcomes
use Rattle.grind_cutsat_assignment.specs.Given.{Given, IsAtom}
use Rattle.grind_cutsat_assignment.specs.Walks.{AreForms}
use Rattle.grind_cutsat_assignment.specs.Assignments.{chosen_value, IsChosenFor, RiseFrom, AreRight, HasGap, IsUnfitBound, NoAssignment}

-- the fact is put at the end if it is a bound, whose form is in order and whose constant fits; else nothing changed
abbrev pub IsKept : Fact → List Fact → List Fact → Type 0
IsKept fact old new =
    ((new ≡ old) × ((form : FormData) → fact.claim ≡ AtMost form → ⊥))
    ⊎ ((new ≡ old ++ fact ∷ []) × (form : FormData) × (fact.claim ≡ AtMost form) × IsForm form × FitsSigned w128 form.constant)

-- the constant of each bound fits
abbrev pub ConstantsFit : List Fact → Type 0
ConstantsFit facts = (post : ℕ) (form : FormData) → IsSaid facts post (AtMost form) → FitsSigned w128 form.constant

-- these are facts, the bounds among all but those that are left, and the forms of these are in order
pub record AreBoundsSoFar (facts rest bounds : List Fact) : Type 0 where
  pub left : (post : ℕ) (claim : Claim) → IsSaid rest post claim → IsSaid facts post claim
  pub within : (post : ℕ) (claim : Claim) → IsSaid bounds post claim → IsSaid facts post claim
  pub alone : (post : ℕ) (claim : Claim) → IsSaid bounds post claim
      → (form : FormData) × (claim ≡ AtMost form) × IsForm form × FitsSigned w128 form.constant
  pub kept : (post : ℕ) (form : FormData) → IsSaid facts post (AtMost form) → IsSaid bounds post (AtMost form) ⊎ IsSaid rest post (AtMost form)

-- these are the bounds among the facts, whose forms are in order
pub record AreBoundsOf (facts bounds : List Fact) : Type 0 where
  pub within : (post : ℕ) (claim : Claim) → IsSaid bounds post claim → IsSaid facts post claim
  pub alone : (post : ℕ) (claim : Claim) → IsSaid bounds post claim → (form : FormData) × (claim ≡ AtMost form)
  pub kept : (post : ℕ) (form : FormData) → IsSaid facts post (AtMost form) → IsSaid bounds post (AtMost form)
  pub forms : AreForms facts
  pub constants : ConstantsFit facts

-- the list has the atoms in order, with the values that their bounds give them
pub record AreChosen (it : Given) (list : List Chosen) : Type 0 where
  pub rise : RiseFrom 0 list
  pub atoms : (n : ℕ) → IsChosenFor list n ↔ IsAtom it n
  pub right : AreRight it (chosen_value list)

-- what the bounds alone leave
abbrev pub IsLeft : Given → Outcome → Type 0
IsLeft it (outcomes.Assigned list) = AreChosen it list
IsLeft it (outcomes.Gap node floor) = HasGap it node floor × NoAssignment it
IsLeft it (outcomes.Unfit post) = IsUnfitBound it post
IsLeft it (outcomes.Equal post) = ⊥

-- the forms are in order, the constants fit, and each atom stands among the terms
pub record IsOrdered (it : Given) : Type 0 where
  pub forms : AreForms it.facts
  pub constants : ConstantsFit it.facts
  pub within : (n : ℕ) → IsAtom it n → n < length it.nodes

-- the negation of the number fits, and the next number does
abbrev pub IsInside : ℤ → Type 0
IsInside floor = FitsSigned w128 (neg_ℤ floor) × FitsSigned w128 (floor +ℤ pos 1)
