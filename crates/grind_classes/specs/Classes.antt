-- Classes of nodes. They are seen as one list of lists: item r has the members of the class whose root is r, and is
-- empty where r is no root.
use Rattle.std.specs.Prelude.{◌≡◌, ℕ, ◌+◌, ◌-◌, ◌<◌, ◌≤◌, List, [], ◌∷◌, ◌++◌, Contains, length, slice_index_or, slice_set, replicate, ◌⊎◌, ◌↔◌}

-- what contracts see of classes: the member lists, by root, and those at each mark in force
pub record Grouping : Type 0 where
  pub lists : List (List ℕ)
  pub marked : List (List (List ℕ))

-- the members of the class with root r, the root first: none past the end
abbrev pub members_of : List (List ℕ) → ℕ → List ℕ
members_of lists r = slice_index_or lists r []

-- node n is a member of the class with root r
abbrev pub IsIn : List (List ℕ) → ℕ → ℕ → Type 0
IsIn lists r n = Contains (members_of lists r) n

-- node n is a member of some class
abbrev pub IsActive : List (List ℕ) → ℕ → Type 0
IsActive lists n = (r : ℕ) × IsIn lists r n

-- two nodes are members of one class
abbrev pub AreTogether : List (List ℕ) → ℕ → ℕ → Type 0
AreTogether lists a b = (r : ℕ) × IsIn lists r a × IsIn lists r b

-- no number stands in the list twice
abbrev pub AreApart : List ℕ → Type 0
AreApart [] = Unit {0}
AreApart (n ∷ ns) = ¬ Contains ns n × AreApart ns

-- the lists are classes
pub record IsPartition (lists : List (List ℕ)) : Type 0 where
  -- the root of a class is its first member
  pub root_first : (r first : ℕ) (rest : List ℕ) → members_of lists r ≡ first ∷ rest → first ≡ r
  -- no node is a member of two classes
  pub in_one : (r s n : ℕ) → IsIn lists r n → IsIn lists s n → r ≡ s
  -- nor stands in one class twice
  pub once : (r : ℕ) → AreApart (members_of lists r)

-- the lists, made long enough by empty ones to have an item n
abbrev pub long_enough : List (List ℕ) → ℕ → List (List ℕ)
long_enough lists n = lists ++ replicate (n + 1 - length lists) []

-- the lists once node n is a class of its own
abbrev pub with_class : List (List ℕ) → ℕ → List (List ℕ)
with_class lists n = slice_set (long_enough lists n) n (n ∷ [])

-- the lists once the members of the class with root gone stand after those of the class with root kept
abbrev pub joined : List (List ℕ) → ℕ → ℕ → List (List ℕ)
joined lists kept gone = slice_set (slice_set lists kept (members_of lists kept ++ members_of lists gone)) gone []

-- the classes of the roots ra and rb become one, the smaller after the larger, or that of rb after that of ra; it has
-- this root, and so many members were appended to others
abbrev pub IsMerge : List (List ℕ) → ℕ → ℕ → List (List ℕ) → ℕ → ℕ → Type 0
IsMerge old ra rb new root moved =
    (length (members_of old rb) ≤ length (members_of old ra)
    → (new ≡ joined old ra rb) × (root ≡ ra) × (moved ≡ length (members_of old rb)))
    × (length (members_of old ra) < length (members_of old rb)
    → (new ≡ joined old rb ra) × (root ≡ rb) × (moved ≡ length (members_of old ra)))

-- two nodes are together exactly where they were, or one was with a and the other with b
abbrev pub AreMergedAt : List (List ℕ) → ℕ → ℕ → List (List ℕ) → ℕ → ℕ → Type 0
AreMergedAt old a b new x y =
    AreTogether new x y ↔ (AreTogether old x y ⊎ ((AreTogether old x a × AreTogether old b y) ⊎ (AreTogether old x b × AreTogether old a y)))
