-- The sides of an equation that is known.
use Rattle.std.specs.Prelude.{◌≡◌, ℕ, ◌⊎◌, List, Contains}
use Rattle.grind_classes.specs.Classes.{AreTogether}
use Rattle.grind_truth_prop.specs.Kernel.{Claim, Holds, Fails, Same, Differ, IsEquation}
use Rattle.grind_truth_prop.specs.Given.{couple, KnownToHold, KnownToFail}
use Rattle.grind_truth_prop.specs.declared.types.Known.{Known}

-- the equation of a and b holds, and they are not in one class, nor is it claimed that they are equal
pub record HasToJoin (known : Known) (lists : List (List ℕ)) (node a b : ℕ) : Type 0 where
  pub holds : KnownToHold known node
  pub not_together : ¬ AreTogether lists a b
  pub not_claimed : ¬ Contains known.same (couple a b)

-- the equation of a and b fails, and it is not claimed that they are different
pub record HasToPart (known : Known) (node a b : ℕ) : Type 0 where
  pub fails : KnownToFail known node
  pub not_claimed : ¬ Contains known.apart (couple a b)

-- what follows for the sides of the known equation, and from what
abbrev pub SidesFollow : Known → List (List ℕ) → ℕ → Claim → Claim → Type 0
SidesFollow known lists node premise claim = (a : ℕ) × (b : ℕ) × IsEquation known.terms.nodes node a b
    × ((HasToJoin known lists node a b × (premise ≡ Holds node) × (claim ≡ Same a b))
    ⊎ (HasToPart known node a b × (premise ≡ Fails node) × (claim ≡ Differ a b)))

-- something follows for the sides of the known equation
abbrev pub HasSides : Known → List (List ℕ) → ℕ → Type 0
HasSides known lists node = (premise : Claim) × (claim : Claim) × SidesFollow known lists node premise claim

-- where the node is an equation that holds, its sides are in one class or claimed to be equal; and where it is one that
-- fails, they are claimed to be different
abbrev pub HasNoSides : Known → List (List ℕ) → ℕ → Type 0
HasNoSides known lists node = (a b : ℕ) → IsEquation known.terms.nodes node a b
    → (KnownToHold known node → AreTogether lists a b ⊎ Contains known.same (couple a b))
    × (KnownToFail known node → Contains known.apart (couple a b))

-- the sides of each known equation are joined or parted
abbrev pub NoSides : Known → List (List ℕ) → Type 0
NoSides known lists = (n : ℕ) → HasNoSides known lists n
