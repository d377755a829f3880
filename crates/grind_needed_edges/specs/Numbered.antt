-- Pairs of nodes, each with a number.
use Rattle.std.specs.Prelude.{◌≡◌, ℕ, List, [], ◌∷◌, ◌++◌, Contains, ◌⊎◌}
use Rattle.grind_needed_edges.specs.declared.pairs.Pair.{Pair}

-- two nodes, in order
abbrev pub pair_of : ℕ → ℕ → Pair
pair_of a b = record { left = a; right = b }

-- the pair of the two has a number
abbrev pub HasNumber : List (Pair × ℕ) → ℕ → ℕ → Type 0
HasNumber pairs a b = (number : ℕ) × Contains pairs (pair_of a b, number)

-- and it has none
abbrev pub HasNoNumber : List (Pair × ℕ) → ℕ → ℕ → Type 0
HasNoNumber pairs a b = (number : ℕ) → ¬ Contains pairs (pair_of a b, number)

-- each pair keeps its number
abbrev pub KeepsNumbers : List (Pair × ℕ) → List (Pair × ℕ) → Type 0
KeepsNumbers old new = (pair : Pair) (number : ℕ) → Contains old (pair, number) → Contains new (pair, number)

-- the pair of the two has a number: it had one before, or this one was given to it
abbrev pub IsNoted : List (Pair × ℕ) → ℕ → ℕ → ℕ → List (Pair × ℕ) → Type 0
IsNoted old a b number new =
    ((new ≡ old) × HasNumber old a b) ⊎ (HasNoNumber old a b × (new ≡ old ++ (pair_of a b, number) ∷ []))
