-- The formula whose truth is to be tried.
use Rattle.std.specs.Prelude.{◌≡◌, ◌≢◌, ℕ, ◌<◌, ◌⊎◌, Bool, List, [], ◌∷◌, ◌++◌, All, slice_get}
use Rattle.std.specs.Option.{IsSomeAnd}
use Rattle.grind_term_graph.specs.declared.head.Head.{Head}
use Rattle.grind_term_graph.specs.declared.head.Head.TheVariants as heads
use Rattle.grind_term_graph.specs.declared.node.Node.{Node}
use Rattle.grind_classes.specs.Classes.{AreTogether}
use Rattle.grind_truth_prop.specs.Given.{IsKnown, IsUnknown}
use Rattle.grind_truth_prop.specs.Connectives.{IsConnective, Agrees}
use Rattle.grind_truth_prop.specs.declared.types.Known.{Known}

-- a head of this kind makes a connective, an equation or a comparison
abbrev pub CanBeTried : Head → Type 0
CanBeTried heads.True = ⊥
CanBeTried heads.False = ⊥
CanBeTried heads.Not = Unit {0}
CanBeTried heads.And = Unit {0}
CanBeTried heads.Or = Unit {0}
CanBeTried heads.Implies = Unit {0}
CanBeTried heads.Eq = Unit {0}
CanBeTried heads.Le = Unit {0}
CanBeTried (heads.Int number) = ⊥
CanBeTried heads.Add = ⊥
CanBeTried heads.Neg = ⊥
CanBeTried heads.Mul = ⊥
CanBeTried (heads.Fun function) = ⊥
CanBeTried (heads.Const constant) = ⊥

-- the connective is an equation of two nodes in one class
abbrev pub HasSidesTogether : List (List ℕ) → Head → List ℕ → Type 0
HasSidesTogether lists head args = (a : ℕ) × (b : ℕ) × (head ≡ heads.Eq) × (args ≡ a ∷ b ∷ []) × AreTogether lists a b

-- with its arguments as they are known, the connective can have that truth
abbrev pub ArgumentsAllow : Known → ℕ → Head → List ℕ → Bool → Type 0
ArgumentsAllow known node head args value =
    (truth : ℕ → Bool) × Agrees known node head args truth × (truth node ≡ value)

-- the connective is fixed: it is an equation of sides in one class, or it has one truth wherever its arguments have theirs
-- as they are known
abbrev pub IsFixedByArguments : Known → List (List ℕ) → ℕ → Head → List ℕ → Type 0
IsFixedByArguments known lists node head args =
    HasSidesTogether lists head args
    ⊎ ((value : Bool) × ((truth : ℕ → Bool) → Agrees known node head args truth → truth node ≡ value))

-- the connective is not fixed: its arguments leave it both truths, and it is no equation of sides in one class
pub record IsNotFixed (known : Known) (lists : List (List ℕ)) (node : ℕ) (head : Head) (args : List ℕ) : Type 0 where
  pub either : (value : Bool) → ArgumentsAllow known node head args value
  pub not_joined : ¬ HasSidesTogether lists head args

-- n is the first of the arguments, from the left, that is not known
pub record IsFirstUnknown (known : Known) (lists : List (List ℕ)) (args : List ℕ) (n : ℕ) : Type 0 where
  pub parts : (before : List ℕ) × (after : List ℕ) × (args ≡ before ++ n ∷ after) × All (IsKnown known) before
  pub unknown : IsUnknown known lists n

-- the node is a known connective that is not fixed, and n its first unknown argument
abbrev pub IsUnfixed : Known → List (List ℕ) → ℕ → ℕ → Type 0
IsUnfixed known lists node n = (head : Head) × (args : List ℕ)
    × IsKnown known node × IsConnective known.terms.nodes node head args × IsNotFixed known lists node head args
    × IsFirstUnknown known lists args n

-- the node is a connective, an equation or a comparison
abbrev pub IsTrialNode : List Node → ℕ → Type 0
IsTrialNode nodes node = IsSomeAnd (slice_get nodes node) (λ (it : Node). CanBeTried it.head)

-- the node is an unknown connective, equation or comparison, and another node is in its class
pub record SharesClass (known : Known) (lists : List (List ℕ)) (node : ℕ) : Type 0 where
  pub unknown : IsUnknown known lists node
  pub kind : IsTrialNode known.terms.nodes node
  pub shared : (other : ℕ) × AreTogether lists node other × (other ≢ node)

-- at this node the truth of n is to be tried
abbrev pub IsWantedAt : Known → List (List ℕ) → ℕ → ℕ → Type 0
IsWantedAt known lists node n = IsUnfixed known lists node n ⊎ (SharesClass known lists node × (n ≡ node))

-- where the node is a known connective, it is fixed
abbrev pub IsFixedIfKnown : Known → List (List ℕ) → ℕ → Type 0
IsFixedIfKnown known lists node = (head : Head) (args : List ℕ) → IsKnown known node
    → IsConnective known.terms.nodes node head args → IsFixedByArguments known lists node head args

-- where the node is an unknown connective, equation or comparison, it is alone in its class
abbrev pub IsAloneIfUnknown : Known → List (List ℕ) → ℕ → Type 0
IsAloneIfUnknown known lists node = IsUnknown known lists node → IsTrialNode known.terms.nodes node
    → (other : ℕ) → AreTogether lists node other → other ≡ node

-- at this node nothing is to be tried
pub record WantsNothing (known : Known) (lists : List (List ℕ)) (node : ℕ) : Type 0 where
  pub fixed : IsFixedIfKnown known lists node
  pub alone : IsAloneIfUnknown known lists node

-- the truth of n is to be tried: at the first node at which anything is
abbrev pub IsWanted : Known → List (List ℕ) → ℕ → Type 0
IsWanted known lists n = (node : ℕ) × IsWantedAt known lists node n × ((k : ℕ) → k < node → WantsNothing known lists k)

-- nothing is to be tried
abbrev pub NoneWanted : Known → List (List ℕ) → Type 0
NoneWanted known lists = (n : ℕ) → WantsNothing known lists n
