-- Marks that note lengths of a list that only grows between them.
use Rattle.std.specs.Prelude.{ℕ, ◌≤◌, List, [], ◌∷◌}

-- the noted numbers rise from one to the next, from low on, and the last is at most top
abbrev pub AreRising : {M : Type 0} → (M → ℕ) → ℕ → List M → ℕ → Type 0
AreRising noted low [] top = low ≤ top
AreRising noted low (mark ∷ marks) top = (low ≤ noted mark) × AreRising noted (noted mark) marks top
