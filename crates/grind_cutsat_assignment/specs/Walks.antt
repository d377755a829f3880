-- What is kept while the assignment is worked out. No public clause cites these words.
use Rattle.std.specs.Prelude.{◌≡◌, ◌⊎◌, ◌↔◌, ℕ, ◌<◌, ◌≤◌, Bool, true, false, List, Some, Option, Contains, length, slice_index_or, ℤ}
use Rattle.grind_term_graph.specs.declared.node.Node.{Node}
use Rattle.grind_term_graph.specs.Terms.{int, sort_at}
use Rattle.grind_linear_forms.specs.declared.form.Part.{Part}
use Rattle.grind_linear_forms.specs.Forms.{FormData, IsForm, part_of}
use Rattle.grind_linear_forms.specs.Readings.{linear}
use Rattle.grind_reach.specs.Readings.{found}
use Rattle.grind_classes.specs.Classes.{IsActive}
use Rattle.grind_claims.specs.declared.claim.Claim.{Claim}
use Rattle.grind_claims.specs.declared.claim.Claim.TheVariants.{AtMost, Differ}
use Rattle.grind_cutsat_facts.specs.declared.facts.Fact.{Fact}
use Rattle.grind_cutsat_facts.specs.Facts.{IsSaid}
use Rattle.grind_cutsat_assignment.specs.Given.{Given, Takes, IsAtom, SaysDiffer}

-- the node is a whole number
abbrev pub IsInt : List Node → ℕ → Type 0
IsInt nodes n = sort_at nodes n ≡ Some int

-- the reading of the node stands at its number
abbrev pub IsReadAt : List Node → List (Option FormData) → ℕ → Type 0
IsReadAt nodes forms n = (n < length forms) × (found forms n ≡ linear nodes n)

-- the active whole numbers below this number are among these
abbrev pub HasActive : List Node → List (List ℕ) → ℕ → List ℕ → Type 0
HasActive nodes lists count ids = (n : ℕ) → n < count → IsActive lists n → IsInt nodes n → Contains ids n

-- the nodes that the claim says differ are among these, if they are whole numbers
abbrev pub HasSides : Claim → List Node → List ℕ → Type 0
HasSides claim nodes ids = (a b : ℕ) → claim ≡ Differ a b → IsInt nodes a → Contains ids a × Contains ids b

-- the nodes that a fact says differ are among these, if they are whole numbers
abbrev pub HasDiffering : List Fact → List Node → List ℕ → Type 0
HasDiffering facts nodes ids =
    (post a b : ℕ) → SaysDiffer facts nodes post a b → Contains ids a × Contains ids b

-- the readings of active whole numbers stand there, and those of whole numbers that are said to differ
pub record AreRead (it : Given) (forms : List (Option FormData)) : Type 0 where
  pub active : (n : ℕ) → IsActive it.lists n → IsInt it.nodes n → IsReadAt it.nodes forms n
  pub differ : (post a b : ℕ) → SaysDiffer it.facts it.nodes post a b → IsReadAt it.nodes forms a × IsReadAt it.nodes forms b

-- the list marks the node
abbrev pub Marks : List Bool → ℕ → Type 0
Marks marks n = slice_index_or marks n false ≡ true

-- the new marks are the old ones and, where they have a place, the nodes of which this is true
pub record Adds (old new : List Bool) (P : ℕ → Type 0) : Type 0 where
  pub count : length new ≡ length old
  pub marks : (n : ℕ) → Marks new n ↔ (Marks old n ⊎ ((n < length old) × P n))

-- while nodes are marked: with those that are left, the marks are the old ones and all nodes of which this is true
pub record IsMarking (old now : List Bool) (Left Whole : ℕ → Type 0) : Type 0 where
  pub count : length now ≡ length old
  pub marks : (n : ℕ) → (Marks now n ⊎ ((n < length old) × Left n)) ↔ (Marks old n ⊎ ((n < length old) × Whole n))

-- the parts take the node
abbrev pub TakesPart : List Part → ℕ → Type 0
TakesPart parts n = (coefficient : ℤ) × Contains parts (part_of n coefficient)

-- the claim bounds a form that takes the node
abbrev pub TakenByClaim : Claim → ℕ → Type 0
TakenByClaim claim n = (form : FormData) × (claim ≡ AtMost form) × Takes form n

-- a fact does
abbrev pub TakenAmong : List Fact → ℕ → Type 0
TakenAmong facts n = (post : ℕ) × (form : FormData) × IsSaid facts post (AtMost form) × Takes form n

-- the reading of a node takes it
abbrev pub TakenByReading : List (Option FormData) → ℕ → ℕ → Type 0
TakenByReading forms m n = (form : FormData) × (found forms m ≡ Some form) × Takes form n

-- the node m is an active whole number whose reading takes it
abbrev pub TakenAt : List Node → List (List ℕ) → List (Option FormData) → ℕ → ℕ → Type 0
TakenAt nodes lists forms m n = IsActive lists m × IsInt nodes m × TakenByReading forms m n

-- one of the nodes from this one on is
abbrev pub TakenFrom : List Node → List (List ℕ) → List (Option FormData) → ℕ → ℕ → Type 0
TakenFrom nodes lists forms least n = (m : ℕ) × (least ≤ m) × (m < length nodes) × TakenAt nodes lists forms m n

-- the forms that the facts bound are in order
abbrev pub AreForms : List Fact → Type 0
AreForms facts = (post : ℕ) (form : FormData) → IsSaid facts post (AtMost form) → IsForm form

-- so is the form of this claim, if it bounds one
abbrev pub IsFormIfBound : Claim → Type 0
IsFormIfBound claim = (form : FormData) → claim ≡ AtMost form → IsForm form

-- the marks are those of the atoms
pub record AreMarks (it : Given) (marks : List Bool) : Type 0 where
  pub count : length marks ≡ length it.nodes
  pub atoms : (n : ℕ) → Marks marks n ↔ ((n < length it.nodes) × IsAtom it n)

-- each atom stands among the terms
abbrev pub AreWithin : Given → Type 0
AreWithin it = (n : ℕ) → IsAtom it n → n < length it.nodes
