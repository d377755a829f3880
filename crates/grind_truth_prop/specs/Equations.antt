-- Equations that are not known, between sides of which it is known whether they are equal.
use Rattle.std.specs.Prelude.{◌≡◌, ℕ, ◌⊎◌, List, [], ◌∷◌, Some, slice_get}
use Rattle.grind_classes.specs.Classes.{IsActive, AreTogether}
use Rattle.grind_truth_prop.specs.Kernel.{Claim, Same, Differ, IsEquation}
use Rattle.grind_truth_prop.specs.Given.{IsKnown, IsUnknown}
use Rattle.grind_truth_prop.specs.declared.types.Couple.{Couple}
use Rattle.grind_truth_prop.specs.declared.types.Known.{Known}

-- the node is an unknown equation of a and b, and they are in one class
pub record IsJoined (known : Known) (lists : List (List ℕ)) (node a b : ℕ) : Type 0 where
  pub unknown : IsUnknown known lists node
  pub equation : IsEquation known.terms.nodes node a b
  pub together : AreTogether lists a b

-- some unknown equation of two nodes in one class has that number
abbrev pub HasJoined : Known → List (List ℕ) → ℕ → Type 0
HasJoined known lists node = (a : ℕ) × (b : ℕ) × IsJoined known lists node a b

-- a is with the first of the pair and b with the second
abbrev pub AreAlong : List (List ℕ) → ℕ → ℕ → Couple → Type 0
AreAlong lists a b pair = AreTogether lists a pair.left × AreTogether lists b pair.right

-- a and b are with the two of the pair, in this order or the other
abbrev pub AreParted : List (List ℕ) → ℕ → ℕ → Couple → Type 0
AreParted lists a b pair = AreAlong lists a b pair ⊎ AreAlong lists b a pair

-- the node is an unknown equation of a and b, and these are up to class the different nodes at that place
pub record IsParted (known : Known) (lists : List (List ℕ)) (node a b place : ℕ) (pair : Couple) : Type 0 where
  pub unknown : IsUnknown known lists node
  pub equation : IsEquation known.terms.nodes node a b
  pub stands : slice_get known.apart place ≡ Some pair
  pub parted : AreParted lists a b pair

-- an unknown equation of two nodes that are up to class the different nodes at that place has that number
abbrev pub HasParted : Known → List (List ℕ) → ℕ → ℕ → Type 0
HasParted known lists node place = (a : ℕ) × (b : ℕ) × (pair : Couple) × IsParted known lists node a b place pair

-- what the difference of a and b rests on, where they are with the two of the pair in this order
abbrev pub parted_premises : ℕ → ℕ → Couple → List Claim
parted_premises a b pair = Differ pair.left pair.right ∷ Same a pair.left ∷ Same b pair.right ∷ []

-- no two different nodes are a and b up to class
abbrev pub AreNotParted : Known → List (List ℕ) → ℕ → ℕ → Type 0
AreNotParted known lists a b = (place : ℕ) (pair : Couple) → slice_get known.apart place ≡ Some pair → ¬ AreParted lists a b pair

-- where the node is an active equation, it is known, or its sides are in different classes and no pair that is different
-- up to class
abbrev pub HasNoEquation : Known → List (List ℕ) → ℕ → Type 0
HasNoEquation known lists node = (a b : ℕ) → IsActive lists node → IsEquation known.terms.nodes node a b
    → IsKnown known node ⊎ (¬ AreTogether lists a b × AreNotParted known lists a b)

-- of no unknown equation it is known whether its sides are equal
abbrev pub NoEquation : Known → List (List ℕ) → Type 0
NoEquation known lists = (n : ℕ) → HasNoEquation known lists n
