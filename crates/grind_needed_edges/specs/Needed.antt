-- Which edges the equality of two nodes needs.
use Rattle.std.specs.Prelude.{◌≡◌, ℕ, ◌<◌, ◌≤◌, List, [], ◌∷◌, Some, All, Contains, slice_get, ◌⊎◌}
use Rattle.std.specs.Option.{IsSomeAnd}
use Rattle.std.specs.List.{AllZip}
use Rattle.grind_term_graph.specs.declared.node.Node.{Node}
use Rattle.grind_classes.specs.Classes.{AreApart}
use Rattle.grind_congruence.specs.declared.edge.Edge.{Edge}
use Rattle.grind_congruence.specs.Edges.{Passes, Leads, Joins}
use Rattle.grind_needed_edges.specs.declared.why.Why.{Why}
use Rattle.grind_needed_edges.specs.declared.why.Why.TheVariants as why

-- two nodes of one head and one sort, with arguments that the first edges, so many of them, join one by one
pub record AreJoinedWithin (nodes : List Node) (edges : List Edge) (count a b : ℕ) : Type 0 where
  pub left : Node
  pub right : Node
  pub left_is : slice_get nodes a ≡ Some left
  pub right_is : slice_get nodes b ≡ Some right
  pub head : left.head ≡ right.head
  pub sort : left.sort ≡ right.sort
  pub has_args : ¬ (left.args ≡ [])
  pub args : AllZip (Joins edges count) left.args right.args

-- the first edges, so many of them and no fewer, join a and b
pub record IsFewest (edges : List Edge) (count a b : ℕ) : Type 0 where
  pub joins : Joins edges count a b
  pub fewest : (k : ℕ) → Joins edges k a b → count ≤ k

-- if the reason is a congruence, earlier edges join the arguments
abbrev pub IsGround : List Node → List Edge → ℕ → Edge → Why → Type 0
IsGround nodes edges place edge (why.Line number) = Unit {0}
IsGround nodes edges place edge why.Congruence = AreJoinedWithin nodes edges place edge.left edge.right

-- so it is for each of the first edges, so many of them
abbrev pub AreGrounds : List Node → List Edge → List Why → ℕ → Type 0
AreGrounds nodes edges whys count =
    (place : ℕ) (edge : Edge) → place < count → slice_get edges place ≡ Some edge
    → IsSomeAnd (slice_get whys edge.why) (IsGround nodes edges place edge)

-- the edge at that place passes from this node to that one
abbrev pub PassesAt : List Edge → ℕ → ℕ → ℕ → Type 0
PassesAt edges place here next = (edge : Edge) × (slice_get edges place ≡ Some edge) × Passes edge here next

-- the places lead from a to b, none of them twice, all among the first edges that do
pub record IsFirstWay (edges : List Edge) (a b : ℕ) (places : List ℕ) : Type 0 where
  pub leads : Leads edges places a b
  pub apart : AreApart places
  pub among : (k : ℕ) → Joins edges k a b → All (λ place. place < k) places

-- the edge stands at one of the places, and holds by congruence
pub record IsCongruenceOn (edges : List Edge) (whys : List Why) (places : List ℕ) (edge : Edge) : Type 0 where
  pub place : ℕ
  pub on : Contains places place
  pub edge_is : slice_get edges place ≡ Some edge
  pub reason : slice_get whys edge.why ≡ Some why.Congruence

-- x stands in the first list where y stands in the second
abbrev pub AreAligned : List ℕ → List ℕ → ℕ → ℕ → Type 0
AreAligned [] [] x y = ⊥
AreAligned [] (b ∷ rights) x y = ⊥
AreAligned (a ∷ lefts) [] x y = ⊥
AreAligned (a ∷ lefts) (b ∷ rights) x y = ((x ≡ a) × (y ≡ b)) ⊎ AreAligned lefts rights x y

-- x is an argument of the node a, and y the same argument of the node b
abbrev pub AreAlignedArgs : List Node → ℕ → ℕ → ℕ → ℕ → Type 0
AreAlignedArgs nodes a b x y =
    (left : Node) × (right : Node) × (slice_get nodes a ≡ Some left) × (slice_get nodes b ≡ Some right) × AreAligned left.args right.args x y

-- the pairs that the equality of a and b needs: it itself, and the arguments, one by one, of two nodes whose congruence
-- stands on the way of a pair that is needed
pub data IsNeededPair (nodes : List Node) (edges : List Edge) (whys : List Why) (a b : ℕ) : ℕ → ℕ → Type 0 where
  -- the pair itself
  asked : IsNeededPair nodes edges whys a b a b
  -- arguments of a congruence
  argument : {left right x y : ℕ} {places : List ℕ} {edge : Edge} → IsNeededPair nodes edges whys a b left right
      → IsFirstWay edges left right places → IsCongruenceOn edges whys places edge → AreAlignedArgs nodes edge.left edge.right x y
      → IsNeededPair nodes edges whys a b x y

-- an equality along the way: of the ends of an edge, as the way passes it, or of the first node and an end that the way
-- comes to. So there are two for each edge that is passed
abbrev pub IsAlong : List Edge → ℕ → ℕ → List ℕ → ℕ → ℕ → Type 0
IsAlong edges first here [] x y = ⊥
IsAlong edges first here (place ∷ places) x y =
    (next : ℕ) × PassesAt edges place here next
    × (((y ≡ next) × ((x ≡ here) ⊎ (x ≡ first))) ⊎ IsAlong edges first next places x y)

-- the same, and where the way passes no edge its one node is equal to itself
abbrev pub IsOfWay : List Edge → ℕ → List ℕ → ℕ → ℕ → Type 0
IsOfWay edges first [] x y = (x ≡ first) × (y ≡ first)
IsOfWay edges first (place ∷ places) x y = IsAlong edges first first (place ∷ places) x y

-- an equality of the way, or one that holds by congruence on it, as its edge has it
abbrev pub IsToldOfWay : List Edge → List Why → ℕ → List ℕ → ℕ → ℕ → Type 0
IsToldOfWay edges whys first places x y =
    IsOfWay edges first places x y ⊎ ((edge : Edge) × IsCongruenceOn edges whys places edge × (x ≡ edge.left) × (y ≡ edge.right))

-- the equality of x and y is one that of a and b needs: one of the way of a needed pair
pub record IsNeededEquality (nodes : List Node) (edges : List Edge) (whys : List Why) (a b x y : ℕ) : Type 0 where
  pub left : ℕ
  pub right : ℕ
  pub places : List ℕ
  pub needed : IsNeededPair nodes edges whys a b left right
  pub way : IsFirstWay edges left right places
  pub told : IsToldOfWay edges whys left places x y
