-- Which nodes may stand in a term table.
use Rattle.std.specs.Prelude.{◌≡◌, ℕ, ◌<◌, ◌≤◌, ◌^◌, List, [], ◌∷◌, ◌++◌, Option, Some, All, Contains, length, map}
use Rattle.grind_term_graph.specs.declared.head.Head.{Head}
use Rattle.grind_term_graph.specs.declared.head.Head.TheVariants.{True, False, Not, And, Or, Implies, Eq, Le, Int, Add, Neg, Mul, Fun, Const}
use Rattle.grind_term_graph.specs.declared.node.Node.{Node}
use Rattle.grind_term_graph.specs.Terms.{prop, int, opening, sort_at}
use Rattle.grind_term_graph.specs.Beginnings.{BeginsWith}

-- there are two, and they are the same
abbrev pub AreTwoAlike : List (Option ℕ) → Type 0
AreTwoAlike (a ∷ b ∷ []) = a ≡ b
AreTwoAlike _ = ⊥

-- a term of this head has this sort, at arguments of these sorts
abbrev pub IsShaped : Head → ℕ → List (Option ℕ) → Type 0
IsShaped True sort args = (sort ≡ prop) × (args ≡ [])
IsShaped False sort args = (sort ≡ prop) × (args ≡ [])
IsShaped Not sort args = (sort ≡ prop) × (args ≡ Some prop ∷ [])
IsShaped And sort args = (sort ≡ prop) × (args ≡ Some prop ∷ Some prop ∷ [])
IsShaped Or sort args = (sort ≡ prop) × (args ≡ Some prop ∷ Some prop ∷ [])
IsShaped Implies sort args = (sort ≡ prop) × (args ≡ Some prop ∷ Some prop ∷ [])
IsShaped Eq sort args = (sort ≡ prop) × AreTwoAlike args
IsShaped Le sort args = (sort ≡ prop) × (args ≡ Some int ∷ Some int ∷ [])
IsShaped (Int _) sort args = (sort ≡ int) × (args ≡ [])
IsShaped Add sort args = (sort ≡ int) × (args ≡ Some int ∷ Some int ∷ [])
IsShaped Neg sort args = (sort ≡ int) × (args ≡ Some int ∷ [])
IsShaped Mul sort args = (sort ≡ int) × (args ≡ Some int ∷ Some int ∷ [])
IsShaped (Fun _) sort args = length args ≤ 16
IsShaped (Const _) sort args = args ≡ []

-- the arguments of a node stand before it, and its head has the number and sorts of arguments, and the sort, that it asks for
abbrev pub WellShaped : List Node → Node → Type 0
WellShaped before node =
    All (λ arg. arg < length before) node.args × IsShaped node.head node.sort (map (sort_at before) node.args)

-- after the nodes before, each of these is well shaped and stands there for the first time
abbrev pub IsTable : List Node → List Node → Type 0
IsTable before [] = Unit {0}
IsTable before (node ∷ rest) = WellShaped before node × ¬ Contains before node × IsTable (before ++ node ∷ []) rest

-- the list begins with True and False
abbrev pub IsBegun : List Node → Type 0
IsBegun nodes = BeginsWith opening nodes

-- what holds of every term table of that limit
abbrev pub IsTermTable : List Node → ℕ → Type 0
IsTermTable nodes limit = IsTable [] nodes × IsBegun nodes × (length nodes ≤ limit) × (limit < 2 ^ 32)
