-- Which answer is given: the first unit that has a case, else the formula to be tried, else rest.
use Rattle.std.specs.Prelude.{ℕ, List}
use Rattle.grind_truth_prop.specs.Classed.{IsClassed, NoneClassed}
use Rattle.grind_truth_prop.specs.Sides.{HasSides, NoSides}
use Rattle.grind_truth_prop.specs.Equations.{HasJoined, HasParted, NoEquation}
use Rattle.grind_truth_prop.specs.Connectives.{IsSettled, IsContradicted, NoneSettled}
use Rattle.grind_truth_prop.specs.Splits.{IsWanted, NoneWanted}
use Rattle.grind_truth_prop.specs.declared.types.Known.{Known}
use Rattle.grind_truth_prop.specs.declared.types.TruthStep.{TruthStep}
use Rattle.grind_truth_prop.specs.declared.types.TruthStep.TheVariants.{Classed, Sides, Joined, Parted, Settle, Conflict, Wants, Rest}

-- neither a node in the class of `True` or `False` has a case, nor the sides of a known equation
pub record NoneAtClasses (known : Known) (lists : List (List ℕ)) : Type 0 where
  pub classed : NoneClassed known lists
  pub sides : NoSides known lists

-- no unit has a case
pub record NothingFollows (known : Known) (lists : List (List ℕ)) : Type 0 where
  pub classed : NoneClassed known lists
  pub sides : NoSides known lists
  pub equations : NoEquation known lists
  pub settled : NoneSettled known lists

-- no unit has a case, and nothing is to be tried
pub record IsAtRest (known : Known) (lists : List (List ℕ)) : Type 0 where
  pub follows : NothingFollows known lists
  pub wanted : NoneWanted known lists

-- the answer: its case stands, and no unit before it has one
abbrev pub IsStep : Known → List (List ℕ) → TruthStep → Type 0
IsStep known lists (Classed node value) = IsClassed known lists node value
IsStep known lists (Sides node) = NoneClassed known lists × HasSides known lists node
IsStep known lists (Joined node) = NoneAtClasses known lists × HasJoined known lists node
IsStep known lists (Parted node apart) = NoneAtClasses known lists × HasParted known lists node apart
IsStep known lists (Settle node value atoms) =
    NoneAtClasses known lists × NoEquation known lists × IsSettled known lists node value atoms
IsStep known lists (Conflict node) =
    NoneAtClasses known lists × NoEquation known lists × IsContradicted known lists node
IsStep known lists (Wants node) = NothingFollows known lists × IsWanted known lists node
IsStep known lists Rest = IsAtRest known lists
