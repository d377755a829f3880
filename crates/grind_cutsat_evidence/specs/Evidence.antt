-- What stands in the way of a solver that has come to rest: readings, cuts and combinations that do not fit, and cases that are
-- left at the limit.
use Rattle.std.specs.Prelude.{◌≡◌, ◌⊎◌, ℕ, List}
use Rattle.grind_cutsat_assignment.specs.Given.{Given}
use Rattle.grind_cutsat_units.specs.declared.types.Planned.{Planned}
use Rattle.grind_cutsat_units.specs.Posts.{AllStand}
use Rattle.grind_cutsat_units.specs.Comparisons.{IsUnreadComparison}
use Rattle.grind_cutsat_units.specs.Equalities.{IsUnreadEquality}
use Rattle.grind_cutsat_units.specs.Equations.{ReadsEquation, IsUnreadEquation}
use Rattle.grind_cutsat_units.specs.Cuts.{CutsBound, ResolvesBounds, IsUncut}

-- the reading of the post, or its cut, does not fit
abbrev pub IsUnreadable : Given → ℕ → Type 0
IsUnreadable it post = (IsUnreadComparison it post ⊎ IsUnreadEquality it post) ⊎ (IsUnreadEquation it post ⊎ IsUncut it post)

-- a case of these posts has something new
abbrev pub HasNew : Given → List Planned → Type 0
HasNew it posts = AllStand it.facts posts → ⊥

-- an equation can still be read, or a bound cut
abbrev pub IsLeftAlone : Given → ℕ → Type 0
IsLeftAlone it post = (posts : List Planned) × (ReadsEquation it post posts ⊎ CutsBound it post posts) × HasNew it posts

-- two bounds can still be resolved
abbrev pub AreLeftTogether : Given → ℕ → ℕ → Type 0
AreLeftTogether it above below = (posts : List Planned) × ResolvesBounds it above below posts × HasNew it posts

-- a case whose posts are counted is left, from one post, which stands twice, or from two
abbrev pub AreLeft : Given → ℕ → ℕ → Type 0
AreLeft it first second = ((first ≡ second) × IsLeftAlone it first) ⊎ AreLeftTogether it first second
