-- What is chosen for an atom at values of the greater atoms.
use Rattle.std.specs.Prelude.{ℕ, List, ℤ}
use Rattle.grind_cutsat_facts.specs.declared.facts.Fact.{Fact}
use Rattle.grind_cutsat_bounds.specs.declared.choice.Choice.{Choice}
use Rattle.grind_cutsat_bounds.specs.declared.choice.Choice.TheVariants as choices
use Rattle.grind_cutsat_bounds.specs.Bounds.{IsBetween, IsBelow, AllFit, IsUnfit}
use Rattle.grind_cutsat_bounds.specs.Nearest.{IsNearest, IsGreatest}

-- what is chosen for the atom: the number nearest to 0 of those between its bounds; where there is none, the greatest that
-- its upper bounds allow is told; and before either, a post that does not fit
abbrev pub IsChoice : (ℕ → ℤ) → List Fact → ℕ → Choice → Type 0
IsChoice v facts x (choices.Value value) = AllFit v facts x × IsNearest (IsBetween v facts x) value
IsChoice v facts x (choices.Gap floor) =
    AllFit v facts x × ((number : ℤ) → ¬ IsBetween v facts x number) × IsGreatest (IsBelow v facts x) floor
IsChoice v facts x (choices.Unfit post) = IsUnfit v facts x post
