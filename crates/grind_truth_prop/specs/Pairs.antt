-- Where pairs stand in a list. No public clause cites these words.
use Rattle.std.specs.Prelude.{◌≡◌, ℕ, ◌<◌, Bool, List, Option, Some, IsSome, slice_get}
use Rattle.grind_classes.specs.Classes.{IsIn}
use Rattle.grind_truth_prop.specs.Equations.{AreParted}
use Rattle.grind_truth_prop.specs.declared.types.Couple.{Couple}
use Rattle.grind_truth_prop.specs.declared.types.Known.{Known}
use Rattle.grind_truth_prop.specs.contracts.types.CouplePartialEq.TheImpl as same

-- whether two pairs are one, as the code compares them
abbrev pub couple_eq : Couple → Couple → Bool
couple_eq = (same.ghosts).eq

-- what finds the places of the first pairs, so many of them
pub record FindsFirst (find : Couple → Option ℕ) (pairs : List Couple) (count : ℕ) : Type 0 where
  pub sound : (pair : Couple) (place : ℕ) → find pair ≡ Some place → slice_get pairs place ≡ Some pair
  pub whole : (pair : Couple) (place : ℕ) → place < count → slice_get pairs place ≡ Some pair → IsSome (find pair)

-- what finds a place of each pair of the list, and of no other
pub record Finds (find : Couple → Option ℕ) (pairs : List Couple) : Type 0 where
  pub sound : (pair : Couple) (place : ℕ) → find pair ≡ Some place → slice_get pairs place ≡ Some pair
  pub whole : (pair : Couple) (place : ℕ) → slice_get pairs place ≡ Some pair → IsSome (find pair)

-- the pair is of the roots of the two
pub record AreRoots (lists : List (List ℕ)) (pair roots : Couple) : Type 0 where
  pub left : IsIn lists roots.left pair.left
  pub right : IsIn lists roots.right pair.right

-- what finds, for two roots, a place of two different nodes of their classes, in this order
pub record FindsParted (known : Known) (lists : List (List ℕ)) (find : Couple → Option ℕ) : Type 0 where
  pub sound : (roots : Couple) (place : ℕ) → find roots ≡ Some place
      → (pair : Couple) × (slice_get known.apart place ≡ Some pair) × AreRoots lists pair roots
  pub whole : (roots pair : Couple) (place : ℕ) → slice_get known.apart place ≡ Some pair → AreRoots lists pair roots
      → IsSome (find roots)

-- the two different nodes at that place are a and b up to class
abbrev pub IsPartedPlace : Known → List (List ℕ) → ℕ → ℕ → ℕ → Type 0
IsPartedPlace known lists a b place = (pair : Couple) × (slice_get known.apart place ≡ Some pair) × AreParted lists a b pair
