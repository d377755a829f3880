-- Which nodes are marked, and which marked node is the last one that is read by another.
use Rattle.std.specs.Prelude.{◌≡◌, ◌⊎◌, ◌≤◌, ◌<◌, ◌↔◌, ℕ, List, length, All, Contains, Some, Option, slice_get, slice_index_or, Bool, true}
use Rattle.grind_term_graph.specs.declared.node.Node.{Node}
use Rattle.grind_reach.specs.Reached.{reads_arguments, IsNeeded, HaveEarlierArguments}
use Rattle.grind_reach.specs.Readings.{Operations, found, read_at}

-- the node of that number is marked
abbrev pub IsMarked : List Bool → ℕ → Type 0
IsMarked marks n = slice_get marks n ≡ Some true

-- the arguments by which a marked node is read are marked
abbrev pub HasMarkedArguments : List Node → List Bool → ℕ → Type 0
HasMarkedArguments nodes marks n = (node : Node) → slice_get nodes n ≡ Some node → IsMarked marks n →
    reads_arguments node.head ≡ true → All (IsMarked marks) node.args

-- the node n is marked, and is read by its argument a
abbrev pub IsReader : List Node → List Bool → ℕ → ℕ → Type 0
IsReader nodes marks n a = (node : Node) × (slice_get nodes n ≡ Some node) × IsMarked marks n × (reads_arguments node.head ≡ true)
    × Contains node.args a

-- the greatest number of a marked node that is read by a, or 0 where there is none
abbrev pub IsLastReader : List Node → List Bool → ℕ → ℕ → Type 0
IsLastReader nodes marks a last = ((n : ℕ) → IsReader nodes marks n a → n ≤ last) × ((last ≡ 0) ⊎ IsReader nodes marks last a)

-- the number that a list of last readers has for a node
abbrev pub reader_at : List ℕ → ℕ → ℕ
reader_at readers a = slice_index_or readers a 0

-- the last use of the reading of a: that of a root comes after all marked nodes, and that of another node is its last reader
abbrev pub IsLastUse : List Node → List Bool → List ℕ → ℕ → ℕ → Type 0
IsLastUse nodes marks roots a last = (Contains roots a × (last ≡ length marks)) ⊎ IsLastReader nodes marks a last

-- the course of one pass over a table: the marked nodes are read, and each reading is let go after its last use
pub record IsCourse (nodes : List Node) (roots : List ℕ) (marks : List Bool) (uses : List ℕ) : Type 0 where
  pub within : length marks ≤ length nodes
  pub size : length uses ≡ length marks
  pub earlier : HaveEarlierArguments nodes
  pub exact : (n : ℕ) → IsMarked marks n ↔ IsNeeded nodes roots n
  pub closed : (n : ℕ) → HasMarkedArguments nodes marks n
  pub uses_of : (a : ℕ) → IsLastUse nodes marks roots a (reader_at uses a)
  pub roots_within : All (λ root. root < length marks) roots
  pub roots_last : All (λ root. reader_at uses root ≡ length marks) roots

-- of the first nodes, one for each of these readings, those that are marked and have a use to come have these readings
abbrev pub AreRead : {R : Type 0} → Operations R → List Node → List Bool → List ℕ → List (Option R) → Type 0
AreRead by nodes marks uses list = (k : ℕ) → k < length list → IsMarked marks k → length list ≤ reader_at uses k
    → found list k ≡ read_at by nodes k

-- each reading that is held is that of a marked node that has a use to come
abbrev pub AreInUse : {R : Type 0} → List Bool → List ℕ → List (Option R) → Type 0
AreInUse {R} marks uses list = (k : ℕ) (reading : R) → found list k ≡ Some reading → IsMarked marks k × (length list ≤ reader_at uses k)
