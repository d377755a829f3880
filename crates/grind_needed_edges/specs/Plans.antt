-- What a plan says: which edges are needed, and the ways of pairs.
use Rattle.std.specs.Prelude.{◌≡◌, ℕ, Bool, true, false, List, Some, All, Contains, slice_get, slice_index_or}
use Rattle.std.specs.List.{AllZip}
use Rattle.grind_term_graph.specs.declared.node.Node.{Node}
use Rattle.grind_congruence.specs.declared.edge.Edge.{Edge}
use Rattle.grind_needed_edges.specs.declared.why.Why.{Why}
use Rattle.grind_needed_edges.specs.declared.why.Why.TheVariants as why
use Rattle.grind_needed_edges.specs.declared.pairs.Pair.{Pair}
use Rattle.grind_needed_edges.specs.declared.plan.Plan.{Plan}
use Rattle.grind_needed_edges.specs.declared.plan.Planner.{Planner}
use Rattle.grind_needed_edges.specs.Numbered.{pair_of, HasNumber}
use Rattle.grind_needed_edges.specs.Needed.{IsFirstWay, IsNeededPair, IsToldOfWay}

-- the edge at that place is needed
abbrev pub IsNeeded : List Bool → ℕ → Type 0
IsNeeded needed place = slice_index_or needed place false ≡ true

-- each pair has the way of its number, and the edges on it are needed
abbrev pub AreWays : List Edge → Plan → Type 0
AreWays edges plan =
    (a b number : ℕ) → Contains plan.pairs (pair_of a b, number)
    → (places : List ℕ) × (slice_get plan.ways number ≡ Some places) × IsFirstWay edges a b places × All (IsNeeded plan.needed) places

-- the edge at that place is on the way of a pair
abbrev pub IsOnPlan : Plan → ℕ → Type 0
IsOnPlan plan place =
    (a : ℕ) × (b : ℕ) × (number : ℕ) × (places : List ℕ) × Contains plan.pairs (pair_of a b, number) × (slice_get plan.ways number ≡ Some places)
    × Contains places place

-- a plan has the ways of pairs that the equality of a and b needs, and no edge is needed that is on none of them
pub record IsPlan (nodes : List Node) (edges : List Edge) (whys : List Why) (a b : ℕ) (plan : Plan) : Type 0 where
  pub ways : AreWays edges plan
  pub pairs : (x y number : ℕ) → Contains plan.pairs (pair_of x y, number) → IsNeededPair nodes edges whys a b x y
  pub on_ways : (place : ℕ) → IsNeeded plan.needed place → IsOnPlan plan place

-- the equality of x and y is one of the way of a pair that is planned
abbrev pub IsPlanned : List Edge → List Why → Plan → ℕ → ℕ → Type 0
IsPlanned edges whys plan x y =
    (a : ℕ) × (b : ℕ) × (number : ℕ) × (places : List ℕ) × Contains plan.pairs (pair_of a b, number) × (slice_get plan.ways number ≡ Some places)
    × IsToldOfWay edges whys a places x y

-- the equality of the planner's two nodes needs that of x and y
abbrev pub IsNeededBy : Planner → ℕ → ℕ → Type 0
IsNeededBy planner x y =
    IsNeededPair planner.terms.now.nodes planner.closure.now.edges planner.whys.now planner.left planner.right x y

-- the plan is one for the planner's two nodes
abbrev pub IsPlanOf : Planner → Plan → Type 0
IsPlanOf planner plan =
    IsPlan planner.terms.now.nodes planner.closure.now.edges planner.whys.now planner.left planner.right plan

-- each pair of arguments of the two nodes has a way
abbrev pub HasWaysFor : List Node → List (Pair × ℕ) → ℕ → ℕ → Type 0
HasWaysFor nodes pairs a b =
    (left right : Node) → slice_get nodes a ≡ Some left → slice_get nodes b ≡ Some right → AllZip (HasNumber pairs) left.args right.args

-- where the edge at that place is needed and a congruence, each pair of arguments has a way
abbrev pub IsCovered : List Node → List Edge → List Why → Plan → ℕ → Type 0
IsCovered nodes edges whys plan place =
    IsNeeded plan.needed place → (edge : Edge) → slice_get edges place ≡ Some edge → slice_get whys edge.why ≡ Some why.Congruence
    → HasWaysFor nodes plan.pairs edge.left edge.right
