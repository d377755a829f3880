-- What the truth table of a connective gives.
use Rattle.std.specs.Prelude.{◌≡◌, ◌≢◌, ℕ, ◌⊎◌, ◌↔◌, Bool, true, false, List, [], ◌∷◌, Some, All, Contains, map, slice_get}
use Rattle.std.specs.List.{AllPairs}
use Rattle.std.specs.Option.{IsSomeAnd}
use Rattle.grind_term_graph.specs.declared.head.Head.{Head}
use Rattle.grind_term_graph.specs.declared.head.Head.TheVariants as heads
use Rattle.grind_term_graph.specs.declared.node.Node.{Node}
use Rattle.grind_term_graph.specs.Terms.{prop, sort_at}
use Rattle.grind_classes.specs.Classes.{IsActive}
use Rattle.grind_truth_prop.specs.Kernel.{joined_truth}
use Rattle.grind_truth_prop.specs.Given.{KnownToHold, KnownToFail, IsKnown, IsUnknown}
use Rattle.grind_truth_prop.specs.declared.types.Known.{Known}

-- there are two
abbrev pub AreTwo : List ℕ → Type 0
AreTwo args = (a : ℕ) × (b : ℕ) × (args ≡ a ∷ b ∷ [])

-- the head joins the truths of so many arguments
abbrev pub JoinsTruths : Head → List ℕ → Type 0
JoinsTruths heads.True args = ⊥
JoinsTruths heads.False args = ⊥
JoinsTruths heads.Not args = (a : ℕ) × (args ≡ a ∷ [])
JoinsTruths heads.And args = AreTwo args
JoinsTruths heads.Or args = AreTwo args
JoinsTruths heads.Implies args = AreTwo args
JoinsTruths heads.Eq args = AreTwo args
JoinsTruths heads.Le args = ⊥
JoinsTruths (heads.Int number) args = ⊥
JoinsTruths heads.Add args = ⊥
JoinsTruths heads.Neg args = ⊥
JoinsTruths heads.Mul args = ⊥
JoinsTruths (heads.Fun function) args = ⊥
JoinsTruths (heads.Const constant) args = ⊥

-- the node is a connective, `Not`, `And`, `Or`, `Implies` or `Eq`, of these formulas
pub record IsConnective (nodes : List Node) (node : ℕ) (head : Head) (args : List ℕ) : Type 0 where
  pub stands : IsSomeAnd (slice_get nodes node) (λ (it : Node). (it.head ≡ head) × (it.args ≡ args))
  pub joins : JoinsTruths head args
  pub formulas : All (λ arg. sort_at nodes arg ≡ Some prop) args

-- the truth is the one that is known of the node, if any is
pub record Keeps (known : Known) (n : ℕ) (truth : Bool) : Type 0 where
  pub holds : KnownToHold known n → truth ≡ true
  pub fails : KnownToFail known n → truth ≡ false

-- An assignment gives each node a truth.

-- the assignment gives a connective of these arguments what its truth table makes of theirs, which are as they are known
pub record Agrees (known : Known) (node : ℕ) (head : Head) (args : List ℕ) (truth : ℕ → Bool) : Type 0 where
  pub table : joined_truth head (map (λ arg. Some (truth arg)) args) ≡ Some (truth node)
  pub arguments : All (λ arg. Keeps known arg (truth arg)) args

-- and the truth of the connective is as it is known
pub record IsPossible (known : Known) (node : ℕ) (head : Head) (args : List ℕ) (truth : ℕ → Bool) : Type 0 where
  pub agrees : Agrees known node head args truth
  pub whole : Keeps known node (truth node)

-- a possible assignment gives node n that truth
abbrev pub CanBe : Known → ℕ → Head → List ℕ → ℕ → Bool → Type 0
CanBe known node head args n value =
    (truth : ℕ → Bool) × IsPossible known node head args truth × (truth n ≡ value)

-- the known truths of a connective and its arguments fix the truth of n, one of them, which is not known: some
-- assignment is possible, and each that is gives it this truth
pub record IsFixed (known : Known) (lists : List (List ℕ)) (node : ℕ) (head : Head) (args : List ℕ) (n : ℕ) (value : Bool) : Type 0 where
  pub active : IsActive lists node
  pub connective : IsConnective known.terms.nodes node head args
  pub among : Contains (node ∷ args) n
  pub unknown : IsUnknown known lists n
  pub possible : CanBe known node head args n value
  pub fixed : (truth : ℕ → Bool) → IsPossible known node head args truth → truth n ≡ value

-- the nodes are exactly the arguments, and none stands there twice
pub record AreFreeNodes (free args : List ℕ) : Type 0 where
  pub exactly : (n : ℕ) → Contains free n ↔ Contains args n
  pub once : AllPairs (λ a b. a ≢ b) free

-- some connective of these arguments fixes the truth of the node
abbrev pub IsSettled : Known → List (List ℕ) → ℕ → Bool → List ℕ → Type 0
IsSettled known lists n value free = (node : ℕ) × (head : Head) × (args : List ℕ)
    × IsFixed known lists node head args n value × AreFreeNodes free args

-- the known truths of a connective and its arguments contradict each other: no assignment is possible
pub record IsImpossible (known : Known) (lists : List (List ℕ)) (node : ℕ) (head : Head) (args : List ℕ) : Type 0 where
  pub active : IsActive lists node
  pub connective : IsConnective known.terms.nodes node head args
  pub never : (truth : ℕ → Bool) → ¬ IsPossible known node head args truth

-- the node is such a connective
abbrev pub IsContradicted : Known → List (List ℕ) → ℕ → Type 0
IsContradicted known lists node = (head : Head) × (args : List ℕ) × IsImpossible known lists node head args

-- at the connective nothing follows: some assignment is possible, and what is not known can be true and can be false
pub record IsLeftOpen (known : Known) (node : ℕ) (head : Head) (args : List ℕ) : Type 0 where
  pub possible : (truth : ℕ → Bool) × IsPossible known node head args truth
  pub both : (n : ℕ) → Contains (node ∷ args) n
      → IsKnown known n ⊎ (CanBe known node head args n true × CanBe known node head args n false)

-- where the node is an active connective, nothing follows at it
abbrev pub SettlesNothing : Known → List (List ℕ) → ℕ → Type 0
SettlesNothing known lists node = (head : Head) (args : List ℕ) → IsActive lists node → IsConnective known.terms.nodes node head args
    → IsLeftOpen known node head args

-- at no connective something follows
abbrev pub NoneSettled : Known → List (List ℕ) → Type 0
NoneSettled known lists = (n : ℕ) → SettlesNothing known lists n
