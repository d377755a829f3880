-- What the rules over terms allow, from the claims of their premises: those of what is given, of equality, of congruence, and of
-- formulas as terms. A rule has exactly the premises that it names, in this order.
use Rattle.std.specs.Prelude.{◌≡◌, ◌≢◌, ℕ, ◌+◌, List, [], ◌∷◌, ◌⊎◌, Some, slice_get, ℤ}
use Rattle.std.specs.Option.{IsSomeAnd}
use Rattle.grind_term_graph.specs.declared.head.Head.TheVariants as head
use Rattle.grind_term_graph.specs.declared.node.Node.{Node}
use Rattle.grind_schemes.specs.Goals.{GoalData}
use Rattle.grind_schemes.specs.Instances.{IsSubstitution, IsInstance}
use Rattle.grind_schemes.specs.Theorems.{TheoremData}
use Rattle.grind_schemes.specs.declared.lemmas.Lemmas.{Lemmas}
use Rattle.grind_claims.specs.declared.claim.Claim.{Claim}
use Rattle.grind_claims.specs.declared.claim.Claim.TheVariants.{Holds, Fails, Same, Differ}

-- the number of the node `True`, and of `False`, in every table of terms
abbrev pub true_node : ℕ
true_node = 0

abbrev pub false_node : ℕ
false_node = 1

-- the node is the equation of these two, in this order
abbrev pub IsEquation : List Node → ℕ → ℕ → ℕ → Type 0
IsEquation nodes node left right =
    IsSomeAnd (slice_get nodes node) (λ (it : Node). (it.head ≡ head.Eq) × (it.args ≡ left ∷ right ∷ []))

-- the node is an equation of the two, in either order
abbrev pub IsEquationOf : List Node → ℕ → ℕ → ℕ → Type 0
IsEquationOf nodes node a b = IsEquation nodes node a b ⊎ IsEquation nodes node b a

-- the node is that number
abbrev pub IsNumber : List Node → ℕ → ℤ → Type 0
IsNumber nodes node number = IsSomeAnd (slice_get nodes node) (λ (it : Node). it.head ≡ head.Int number)

-- hyp: from nothing, hypothesis i of the goal holds, counted from 1
abbrev pub IsHyp : GoalData → ℕ → List Claim → Claim → Type 0
IsHyp goal i premises claim = (k : ℕ) × (n : ℕ)
    × (i ≡ k + 1) × (slice_get goal.hyps k ≡ Some n) × (premises ≡ []) × (claim ≡ Holds n)

-- negated: from nothing, the conclusion of the goal fails
abbrev pub IsNegated : GoalData → List Claim → Claim → Type 0
IsNegated goal premises claim = (premises ≡ []) × (claim ≡ Fails goal.show)

-- the node is what the theorem says of these nodes, one of the right sort for each of its variables
abbrev pub IsBodyAt : List Node → TheoremData → List ℕ → ℕ → Type 0
IsBodyAt nodes theorem subst n = IsSubstitution nodes theorem.vars subst × IsInstance nodes subst theorem.body n

-- inst: from nothing, what theorem t says of these nodes holds
abbrev pub IsInst : Lemmas → List Node → ℕ → List ℕ → List Claim → Claim → Type 0
IsInst lemmas nodes t subst premises claim = (n : ℕ)
    × IsSomeAnd (slice_get lemmas.theorems t) (λ (theorem : TheoremData). IsBodyAt nodes theorem subst n)
    × (premises ≡ []) × (claim ≡ Holds n)

-- refl: from nothing, a term equals itself
abbrev pub IsRefl : List Claim → Claim → Type 0
IsRefl premises claim = (a : ℕ) × (premises ≡ []) × (claim ≡ Same a a)

-- sym: an equality turned round
abbrev pub IsSym : List Claim → Claim → Type 0
IsSym premises claim = (a : ℕ) × (b : ℕ) × (premises ≡ Same a b ∷ []) × (claim ≡ Same b a)

-- trans: two equalities, where the first ends with what the second begins with
abbrev pub IsTrans : List Claim → Claim → Type 0
IsTrans premises claim = (a : ℕ) × (b : ℕ) × (c : ℕ)
    × (premises ≡ Same a b ∷ Same b c ∷ []) × (claim ≡ Same a c)

-- the premises say that these are equal to those, one by one
abbrev pub SayEqual : List ℕ → List ℕ → List Claim → Type 0
SayEqual [] [] [] = Unit {0}
SayEqual (a ∷ xs) (b ∷ ys) (p ∷ ps) = (p ≡ Same a b) × SayEqual xs ys ps
SayEqual [] [] (p ∷ ps) = ⊥
SayEqual [] (b ∷ ys) ps = ⊥
SayEqual (a ∷ xs) [] ps = ⊥
SayEqual (a ∷ xs) (b ∷ ys) [] = ⊥

-- cong: two terms of one head and one sort, whose arguments, at least one, are equal one by one
abbrev pub IsCong : List Node → List Claim → Claim → Type 0
IsCong nodes premises claim = (a : ℕ) × (b : ℕ) × (one : Node) × (other : Node)
    × (claim ≡ Same a b) × (slice_get nodes a ≡ Some one) × (slice_get nodes b ≡ Some other)
    × (one.head ≡ other.head) × (one.sort ≡ other.sort) × (premises ≢ []) × SayEqual one.args other.args premises

-- eq: the sides of an equation that holds are equal, and of one that fails different
abbrev pub IsEq : List Node → List Claim → Claim → Type 0
IsEq nodes premises claim = (n : ℕ) × (a : ℕ) × (b : ℕ) × IsEquation nodes n a b
    × (((premises ≡ Holds n ∷ []) × (claim ≡ Same a b)) ⊎ ((premises ≡ Fails n ∷ []) × (claim ≡ Differ a b)))

-- back: an equation of two equal terms holds, and of two different ones fails
abbrev pub IsBack : List Node → List Claim → Claim → Type 0
IsBack nodes premises claim = (a : ℕ) × (b : ℕ) × (n : ℕ) × IsEquationOf nodes n a b
    × (((premises ≡ Same a b ∷ []) × (claim ≡ Holds n)) ⊎ ((premises ≡ Differ a b ∷ []) × (claim ≡ Fails n)))

-- truth: a formula that holds equals `True`, and one that fails `False`
abbrev pub IsTruth : List Claim → Claim → Type 0
IsTruth premises claim = (n : ℕ)
    × (((premises ≡ Holds n ∷ []) × (claim ≡ Same n true_node))
    ⊎ ((premises ≡ Fails n ∷ []) × (claim ≡ Same n false_node)))

-- untruth: what equals `True` holds, and what equals `False` fails
abbrev pub IsUntruth : List Claim → Claim → Type 0
IsUntruth premises claim = (n : ℕ)
    × (((premises ≡ Same n true_node ∷ []) × (claim ≡ Holds n))
    ⊎ ((premises ≡ Same n false_node ∷ []) × (claim ≡ Fails n)))
