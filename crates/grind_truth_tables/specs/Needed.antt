-- On which nodes the truths of claims rest. No public clause cites these words.
use Rattle.std.specs.Prelude.{◌≡◌, ℕ, ◌<◌, Bool, List, [], ◌∷◌, ◌⊎◌, All, Option, slice_get, option_and_then, map, ⊤}
use Rattle.std.specs.Option.{IsSomeAnd, option_or}
use Rattle.std.specs.BTreeMap.{BTreeMap, get}
use Rattle.std.specs.Ordering.{nat_cmp}
use Rattle.grind_term_graph.specs.declared.head.Head.{Head}
use Rattle.grind_term_graph.specs.declared.head.Head.TheVariants as head
use Rattle.grind_term_graph.specs.declared.node.Node.{Node}
use Rattle.grind_claims.specs.declared.claim.Claim.{Claim}
use Rattle.grind_claims.specs.declared.claim.Claim.TheVariants.{Holds, Fails, Same, Differ, AtMost, Zero, Absurd}
use Rattle.grind_truth_tables.specs.Tables.{free_truth, joined_truth}

-- the list has the node
unfoldable pub Lists : List ℕ → ℕ → Type 0
Lists [] n = ⊥
Lists (m ∷ nodes) n = (n ≡ m) ⊎ Lists nodes n

-- each node of the list is below all before it
unfoldable pub Falls : List ℕ → Type 0
Falls [] = ⊤
Falls (n ∷ nodes) = All (λ m. m < n) nodes × Falls nodes

-- a connective
abbrev pub IsConnective : Head → Type 0
IsConnective head.True = ⊥
IsConnective head.False = ⊥
IsConnective head.Not = Unit {0}
IsConnective head.And = Unit {0}
IsConnective head.Or = Unit {0}
IsConnective head.Implies = Unit {0}
IsConnective head.Eq = Unit {0}
IsConnective head.Le = ⊥
IsConnective (head.Int number) = ⊥
IsConnective head.Add = ⊥
IsConnective head.Neg = ⊥
IsConnective head.Mul = ⊥
IsConnective (head.Fun function) = ⊥
IsConnective (head.Const constant) = ⊥

-- the truth of the first node rests on that of the second: the first is a connective that is not free, and the second one of
-- its arguments
abbrev pub RestsOn : List Node → List ℕ → ℕ → ℕ → Type 0
RestsOn nodes free n m =
    (¬ Lists free n) × IsSomeAnd (slice_get nodes n) (λ (node : Node). IsConnective node.head × Lists node.args m)

-- the claim says that the node holds, or that it fails
abbrev pub Names : Claim → ℕ → Type 0
Names (Holds n) m = m ≡ n
Names (Fails n) m = m ≡ n
Names (Same a b) m = ⊥
Names (Differ a b) m = ⊥
Names (AtMost form) m = ⊥
Names (Zero poly) m = ⊥
Names Absurd m = ⊥

-- one of the claims does
abbrev pub NameNode : List Claim → ℕ → Type 0
NameNode [] n = ⊥
NameNode (claim ∷ claims) n = Names claim n ⊎ NameNode claims n

-- the list has each node that one of the claims names
abbrev pub CoversNamed : List Claim → List ℕ → Type 0
CoversNamed claims order = (n : ℕ) → NameNode claims n → Lists order n

-- the nodes fall, and where the truth of one of them rests on that of another, this other is among them
pub record IsSelfContained (nodes : List Node) (free order : List ℕ) : Type 0 where
  pub falls : Falls order
  pub closed : (n m : ℕ) → Lists order n → RestsOn nodes free n m → (m < n) × Lists order m

-- the keys were joined by those nodes
pub record Collects (old nodes new : List ℕ) : Type 0 where
  pub kept : (m : ℕ) → Lists old m → Lists new m
  pub put : (m : ℕ) → Lists nodes m → Lists new m
  pub below : (d : ℕ) → All (λ m. m < d) nodes → All (λ m. m < d) old → All (λ m. m < d) new

-- the keys were joined by the nodes on which the truth of this one rests
pub record Asks (nodes : List Node) (free : List ℕ) (n : ℕ) (old new : List ℕ) : Type 0 where
  pub kept : (m : ℕ) → Lists old m → Lists new m
  pub asked : (m : ℕ) → RestsOn nodes free n m → (m < n) × Lists new m
  pub below : All (λ m. m < n) old → All (λ m. m < n) new

-- the truth of a node that a map of truths tells
abbrev pub told : BTreeMap ℕ (Option Bool) → ℕ → Option Bool
told known n = option_and_then (λ (truth : Option Bool). truth) (get nat_cmp known n)

-- the truth of a node, from those of its arguments
abbrev pub truth_from : List Node → List ℕ → List Bool → (ℕ → Option Bool) → ℕ → Option Bool
truth_from nodes free truths look n =
    option_and_then (λ (node : Node). option_or (free_truth free truths n) (joined_truth node.head (map look node.args))) (slice_get nodes n)
