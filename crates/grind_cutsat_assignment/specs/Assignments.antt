-- The assignment: each atom, from the greatest down, takes the whole number nearest to 0 between its bounds at the values of
-- the greater atoms.
use Rattle.std.specs.Prelude.{◌≡◌, ◌≢◌, ◌↔◌, ℕ, suc, ◌≤◌, ◌⊎◌, List, [], ◌∷◌, Option, Some, None, nat_eq, if◌then◌else◌, ℤ, pos}
use Rattle.std.specs.Option.{option_and_then}
use Rattle.grind_linear_forms.specs.Forms.{FormData}
use Rattle.grind_linear_forms.specs.Readings.{linear}
use Rattle.grind_term_graph.specs.declared.node.Node.{Node}
use Rattle.grind_cutsat_assignment.specs.declared.outcome.Chosen.{Chosen}
use Rattle.grind_cutsat_assignment.specs.declared.outcome.Outcome.{Outcome}
use Rattle.grind_cutsat_assignment.specs.declared.outcome.Outcome.TheVariants as outcomes
use Rattle.grind_cutsat_bounds.specs.Evaluations.{evaluated}
use Rattle.grind_cutsat_bounds.specs.Bounds.{IsBetween, IsBelow, AllFit, IsUnfit}
use Rattle.grind_cutsat_bounds.specs.Nearest.{IsNearest, IsGreatest}
use Rattle.grind_cutsat_assignment.specs.Given.{Given, IsAtom, SaysDiffer}

-- the value that is chosen for the node: 0 where none is
abbrev pub chosen_value : List Chosen → ℕ → ℤ
chosen_value [] n = pos 0
chosen_value (it ∷ rest) n = if nat_eq it.node n then it.value else chosen_value rest n

-- a value is chosen for the node
abbrev pub IsChosenFor : List Chosen → ℕ → Type 0
IsChosenFor [] n = ⊥
IsChosenFor (it ∷ rest) n = (it.node ≡ n) ⊎ IsChosenFor rest n

-- the nodes rise strictly, from this one on
abbrev pub RiseFrom : ℕ → List Chosen → Type 0
RiseFrom least [] = Unit {0}
RiseFrom least (it ∷ rest) = (least ≤ it.node) × RiseFrom (suc it.node) rest

-- the value of the atom is the whole number nearest to 0 between its bounds, each of which fits
abbrev pub IsRight : Given → (ℕ → ℤ) → ℕ → Type 0
IsRight it v n = IsNearest (IsBetween v it.facts n) (v n)

-- so it is of each atom from this node on
abbrev pub AreRightFrom : Given → ℕ → (ℕ → ℤ) → Type 0
AreRightFrom it least v = (n : ℕ) → least ≤ n → IsAtom it n → IsRight it v n

-- a node that is no atom has the value 0
abbrev pub AreZeroElsewhere : Given → (ℕ → ℤ) → Type 0
AreZeroElsewhere it v = (n : ℕ) → ¬ IsAtom it n → v n ≡ pos 0

-- what the reading of the node comes to, where it is defined and fits
abbrev pub read_value : List Node → (ℕ → ℤ) → ℕ → Option ℤ
read_value nodes v n = option_and_then (λ (form : FormData). evaluated v form.constant form.parts) (linear nodes n)

-- the readings of the two come to different numbers
abbrev pub AreKeptApart : Given → (ℕ → ℤ) → ℕ → ℕ → Type 0
AreKeptApart it v a b = (p : ℤ) × (q : ℤ) × (read_value it.nodes v a ≡ Some p) × (read_value it.nodes v b ≡ Some q) × (p ≢ q)

-- whole numbers that are said to differ have readings of different values
abbrev pub AllKeptApart : Given → (ℕ → ℤ) → Type 0
AllKeptApart it v = (post a b : ℕ) → SaysDiffer it.facts it.nodes post a b → AreKeptApart it v a b

-- the values are the assignment
pub record IsAssigned (it : Given) (v : ℕ → ℤ) : Type 0 where
  pub right : AreRightFrom it 0 v
  pub elsewhere : AreZeroElsewhere it v
  pub apart : AllKeptApart it v

-- the list is the assignment: the atoms rise, and each has its value
pub record IsAssignment (it : Given) (list : List Chosen) : Type 0 where
  pub rise : RiseFrom 0 list
  pub atoms : (n : ℕ) → IsChosenFor list n ↔ IsAtom it n
  pub values : IsAssigned it (chosen_value list)

-- the values of the atoms above this one are as they have to be, and no others
pub record AreRightAbove (it : Given) (n : ℕ) (v : ℕ → ℤ) : Type 0 where
  pub atom : IsAtom it n
  pub right : AreRightFrom it (suc n) v
  pub elsewhere : AreZeroElsewhere it v

-- the bounds of the atom enclose no whole number; floor is the greatest that its upper bounds allow
abbrev pub HasGap : Given → ℕ → ℤ → Type 0
HasGap it n floor = (v : ℕ → ℤ) × AreRightAbove it n v × AllFit v it.facts n
    × ((number : ℤ) → ¬ IsBetween v it.facts n number) × IsGreatest (IsBelow v it.facts n) floor

-- the post is a bound of an atom, and does not fit at the values of the greater atoms
abbrev pub IsUnfitBound : Given → ℕ → Type 0
IsUnfitBound it post = (n : ℕ) × (v : ℕ → ℤ) × AreRightAbove it n v × IsUnfit v it.facts n post

-- each atom has a value
abbrev pub AreRight : Given → (ℕ → ℤ) → Type 0
AreRight it v = AreRightFrom it 0 v × AreZeroElsewhere it v

-- the post says that two whole numbers differ, and the reading of one does not fit at the values
abbrev pub IsUnfitDiffer : Given → ℕ → Type 0
IsUnfitDiffer it post = (v : ℕ → ℤ) × (a : ℕ) × (b : ℕ) × AreRight it v × SaysDiffer it.facts it.nodes post a b
    × ((read_value it.nodes v a ≡ None) ⊎ (read_value it.nodes v b ≡ None))

-- the values make the readings equal of two whole numbers that the post says differ
abbrev pub MakesEqual : Given → ℕ → ℕ → ℕ → Type 0
MakesEqual it post a b = (v : ℕ → ℤ) × (value : ℤ) × AreRight it v × SaysDiffer it.facts it.nodes post a b
    × (read_value it.nodes v a ≡ Some value) × (read_value it.nodes v b ≡ Some value)

-- the assignment, or why there is none
abbrev pub IsOutcome : Given → Outcome → Type 0
IsOutcome it (outcomes.Assigned list) = IsAssignment it list
IsOutcome it (outcomes.Gap node floor) = HasGap it node floor
IsOutcome it (outcomes.Unfit post) = IsUnfitBound it post ⊎ IsUnfitDiffer it post
IsOutcome it (outcomes.Equal post) = (a : ℕ) × (b : ℕ) × MakesEqual it post a b

-- it is no assignment
abbrev pub IsFailure : Outcome → Type 0
IsFailure (outcomes.Assigned list) = ⊥
IsFailure (outcomes.Gap node floor) = Unit {0}
IsFailure (outcomes.Unfit post) = Unit {0}
IsFailure (outcomes.Equal post) = Unit {0}

-- no list is the assignment
abbrev pub NoAssignment : Given → Type 0
NoAssignment it = (list : List Chosen) → ¬ IsAssignment it list
