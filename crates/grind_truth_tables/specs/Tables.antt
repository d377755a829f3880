-- The rule `table`: what the truth tables of the connectives give, whatever truths the free nodes have.
use Rattle.std.specs.Prelude.{◌≡◌, ◌≢◌, ℕ, ◌≤◌, Bool, true, false, ◌&&◌, ◌||◌, not, List, [], ◌∷◌, ◌++◌, All, length, map, Option, Some, None, IsSome, slice_get, nat_eq, if◌then◌else◌, option_and_then}
use Rattle.std.specs.Option.{option_map, option_or}
use Rattle.std.specs.List.{AllPairs}
use Rattle.grind_term_graph.specs.declared.head.Head.{Head}
use Rattle.grind_term_graph.specs.declared.head.Head.TheVariants as head
use Rattle.grind_term_graph.specs.declared.node.Node.{Node}
use Rattle.grind_term_graph.specs.Terms.{prop, sort_at}
use Rattle.grind_claims.specs.declared.claim.Claim.{Claim}
use Rattle.grind_claims.specs.declared.claim.Claim.TheVariants.{Holds, Fails, Same, Differ, AtMost, Zero, Absurd}

-- An assignment is a list of truths, one for each free node in order.

-- what an assignment makes a free node, and nothing for another node
abbrev pub free_truth : List ℕ → List Bool → ℕ → Option Bool
free_truth [] truths n = None
free_truth (f ∷ free) [] n = None
free_truth (f ∷ free) (t ∷ truths) n = if nat_eq f n then Some t else free_truth free truths n

-- the connective of one truth, where there is one
abbrev pub unary_truth : (Bool → Bool) → List (Option Bool) → Option Bool
unary_truth f (Some a ∷ []) = Some (f a)
unary_truth f (None ∷ []) = None
unary_truth f [] = None
unary_truth f (a ∷ b ∷ rest) = None

-- the connective of two truths, where there are two
abbrev pub binary_truth : (Bool → Bool → Bool) → List (Option Bool) → Option Bool
binary_truth f (Some a ∷ Some b ∷ []) = Some (f a b)
binary_truth f (Some a ∷ None ∷ []) = None
binary_truth f (None ∷ b ∷ []) = None
binary_truth f [] = None
binary_truth f (a ∷ []) = None
binary_truth f (a ∷ b ∷ c ∷ rest) = None

-- whether the first implies the second
abbrev pub implies : Bool → Bool → Bool
implies a b = not a || b

-- whether the two are one truth
abbrev pub alike : Bool → Bool → Bool
alike true b = b
alike false b = not b

-- what a head makes of the truths of its arguments: `True`, `False` and the connectives give a truth. An equation is
-- one between formulas, since nothing else has a truth.
abbrev pub joined_truth : Head → List (Option Bool) → Option Bool
joined_truth head.True truths = Some true
joined_truth head.False truths = Some false
joined_truth head.Not truths = unary_truth not truths
joined_truth head.And truths = binary_truth (λ a b. a && b) truths
joined_truth head.Or truths = binary_truth (λ a b. a || b) truths
joined_truth head.Implies truths = binary_truth implies truths
joined_truth head.Eq truths = binary_truth alike truths
joined_truth head.Le truths = None
joined_truth (head.Int number) truths = None
joined_truth head.Add truths = None
joined_truth head.Neg truths = None
joined_truth head.Mul truths = None
joined_truth (head.Fun function) truths = None
joined_truth (head.Const constant) truths = None

-- the truth of a node among those that are known
abbrev pub truth_at : List (Option Bool) → ℕ → Option Bool
truth_at known n = option_and_then (λ (truth : Option Bool). truth) (slice_get known n)

-- the truth of a node that has that number: its own where it is free, else what its head makes of its arguments
abbrev pub node_truth : List ℕ → List Bool → List (Option Bool) → ℕ → Node → Option Bool
node_truth free truths known n node =
    option_or (free_truth free truths n) (joined_truth node.head (map (truth_at known) node.args))

-- the truths of nodes, after those of the nodes before them
abbrev pub truths_of : List ℕ → List Bool → List (Option Bool) → List Node → List (Option Bool)
truths_of free truths known [] = known
truths_of free truths known (node ∷ nodes) =
    truths_of free truths (known ++ node_truth free truths known (length known) node ∷ []) nodes

-- the truth that an assignment gives a node: there is one where the node is expressed by the free ones
abbrev pub truth_of : List Node → List ℕ → List Bool → ℕ → Option Bool
truth_of nodes free truths n = truth_at (truths_of free truths [] nodes) n

-- the truth of a literal, from those of the nodes
abbrev pub literal_truth : (ℕ → Option Bool) → Claim → Option Bool
literal_truth truth (Holds n) = truth n
literal_truth truth (Fails n) = option_map not (truth n)
literal_truth truth (Same a b) = None
literal_truth truth (Differ a b) = None
literal_truth truth (AtMost form) = None
literal_truth truth (Zero poly) = None
literal_truth truth Absurd = None

-- the truth of what the rule may claim: a literal, or a contradiction, which is never true
abbrev pub conclusion_truth : (ℕ → Option Bool) → Claim → Option Bool
conclusion_truth truth (Holds n) = truth n
conclusion_truth truth (Fails n) = option_map not (truth n)
conclusion_truth truth (Same a b) = None
conclusion_truth truth (Differ a b) = None
conclusion_truth truth (AtMost form) = None
conclusion_truth truth (Zero poly) = None
conclusion_truth truth Absurd = Some false

-- with these truths of the nodes each premise and the claim has a truth, and where all premises are true so is the claim
pub record Follows (truth : ℕ → Option Bool) (premises : List Claim) (claim : Claim) : Type 0 where
  pub expressed : All (λ premise. IsSome (literal_truth truth premise)) premises
  pub concluded : IsSome (conclusion_truth truth claim)
  pub follows : All (λ premise. literal_truth truth premise ≡ Some true) premises → conclusion_truth truth claim ≡ Some true

-- table: at most six free nodes, all different and all formulas, and the claim follows under each assignment
pub record IsTableRule (nodes : List Node) (free : List ℕ) (premises : List Claim) (claim : Claim) : Type 0 where
  pub few : length free ≤ 6
  pub different : AllPairs (λ a b. a ≢ b) free
  pub formulas : All (λ n. sort_at nodes n ≡ Some prop) free
  pub always : (truths : List Bool) → length truths ≡ length free → Follows (truth_of nodes free truths) premises claim
