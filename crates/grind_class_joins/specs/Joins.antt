-- Merges of the classes of pairs of nodes, one pair after the other.
use Rattle.std.specs.Prelude.{◌≡◌, ℕ, ◌+◌, ◌<◌, ◌≤◌, ◌^◌, List, [], ◌∷◌, ◌++◌, length, ◌⊎◌}
use Rattle.std.specs.List.{sum_by}
use Rattle.grind_classes.specs.Classes.{IsIn, IsActive, AreTogether, IsMerge}
use Rattle.grind_class_joins.specs.declared.joins.Pair.{Pair}

-- both nodes of the pair are active
abbrev pub IsActivePair : List (List ℕ) → Pair → Type 0
IsActivePair lists pair = IsActive lists pair.left × IsActive lists pair.right

-- the classes of the two nodes become one; so many nodes are moved
abbrev pub BecomeOne : List (List ℕ) → Pair → List (List ℕ) → ℕ → Type 0
BecomeOne old pair new moved =
    (ra : ℕ) × (rb : ℕ) × (root : ℕ) × IsIn old ra pair.left × IsIn old rb pair.right × IsMerge old ra rb new root moved

-- the same, unless they are one already: then nothing changes, and no node is moved
abbrev pub MergesPair : List (List ℕ) → Pair → List (List ℕ) → ℕ → Type 0
MergesPair old pair new moved =
    (AreTogether old pair.left pair.right × (new ≡ old) × (moved ≡ 0))
    ⊎ (¬ AreTogether old pair.left pair.right × BecomeOne old pair new moved)

-- so it is for each of the pairs, one after the other; so many nodes are moved in all
abbrev pub Merges : List (List ℕ) → List Pair → List (List ℕ) → ℕ → Type 0
Merges old [] new moved = (new ≡ old) × (moved ≡ 0)
Merges old (pair ∷ pairs) new moved =
    (mid : List (List ℕ)) × (first : ℕ) × (others : ℕ)
    × MergesPair old pair mid first × Merges mid pairs new others × (moved ≡ first + others)

-- so it is for the first few of the pairs
abbrev pub MergesFirst : List (List ℕ) → List Pair → List (List ℕ) → Type 0
MergesFirst old pairs new =
    (done : List Pair) × (rest : List Pair) × (moved : ℕ) × (pairs ≡ done ++ rest) × Merges old done new moved

-- how many nodes are active
abbrev pub member_count : List (List ℕ) → ℕ
member_count lists = sum_by length lists

-- b is the greatest number with 2^b at most n
abbrev pub IsGreatestPower : ℕ → ℕ → Type 0
IsGreatestPower n b = (2 ^ b ≤ n) × (n < 2 ^ (b + 1))
