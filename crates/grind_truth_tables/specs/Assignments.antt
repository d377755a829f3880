-- A word for the walk over the assignments of the rule `table`. No public clause cites it.
use Rattle.std.specs.Prelude.{◌≡◌, ℕ, Bool, List, ◌++◌, length}

-- the fact holds of each list of truths that begins with the chosen ones and has so many more
abbrev pub HoldsBehind : (List Bool → Type 0) → List Bool → ℕ → Type 0
HoldsBehind P chosen count = (more : List Bool) → length more ≡ count → P (chosen ++ more)
