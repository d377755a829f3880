-- The trees of the classes. Each equation that was kept joined two of them: one root lost its place and hangs below the other.
use Rattle.std.specs.Prelude.{◌≡◌, ◌≢◌, ℕ, zero, suc, ◌+◌, ◌<◌, ◌≤◌, List, [], ◌∷◌, ◌++◌, Option, Some, None, cond, nat_eq, Contains, length, take, slice_get, slice_index_or, ◌⊎◌}
use Rattle.grind_classes.specs.Classes.{AreApart}
use Rattle.grind_congruence.specs.declared.edge.Edge.{Edge}
use Rattle.grind_congruence.specs.declared.forest.Join.{Join}
use Rattle.grind_congruence.specs.declared.legs.Leg.{Leg}
use Rattle.grind_congruence.specs.declared.legs.Leg.TheVariants.{Pass, Between}
use Rattle.grind_congruence.specs.Edges.{Passes, Leads}

-- the root of a tree once two trees are joined
abbrev pub stepped : ℕ → Join → ℕ
stepped n join = cond (nat_eq n join.gone) join.kept n

-- the root of the tree of a node once all of these joins are made
abbrev pub climbed : ℕ → List Join → ℕ
climbed n [] = n
climbed n (join ∷ joins) = climbed (stepped n join) joins

-- two nodes are in one tree once the first k joins are made
abbrev pub AreSameAt : List Join → ℕ → ℕ → ℕ → Type 0
AreSameAt joins k a b = climbed a (take k joins) ≡ climbed b (take k joins)

-- a node does not lose its place as a root
abbrev pub IsNeverGone : List Join → ℕ → Type 0
IsNeverGone joins n = (place : ℕ) (join : Join) → slice_get joins place ≡ Some join → join.gone ≢ n

-- a node loses its place as a root in this join, and in no other
pub record IsGoneAt (joins : List Join) (n place : ℕ) : Type 0 where
  pub join : Join
  pub stands : slice_get joins place ≡ Some join
  pub gone : join.gone ≡ n
  pub only : (other : ℕ) (it : Join) → slice_get joins other ≡ Some it → it.gone ≡ n → other ≡ place

-- of two nodes, this is the first join in which one loses its place as a root
pub record IsFirstGone (joins : List Join) (x y place : ℕ) : Type 0 where
  pub join : Join
  pub stands : slice_get joins place ≡ Some join
  pub gone : (join.gone ≡ x) ⊎ (join.gone ≡ y)
  pub first : (other : ℕ) (it : Join) → slice_get joins other ≡ Some it → (it.gone ≡ x) ⊎ (it.gone ≡ y) → place ≤ other

-- no root loses its place twice, and none that lost it is a root again
pub record IsForest (joins : List Join) : Type 0 where
  pub differ : (place : ℕ) (join : Join) → slice_get joins place ≡ Some join → join.gone ≢ join.kept
  pub once : (place later : ℕ) (join other : Join) → place < later → slice_get joins place ≡ Some join
      → slice_get joins later ≡ Some other → (join.gone ≢ other.gone) × (join.gone ≢ other.kept)

-- and the place of each join is written for the root that lost its place
pub record AreFound (joins : List Join) (lost : List (Option ℕ)) : Type 0 where
  pub forest : IsForest joins
  pub written : (place : ℕ) (join : Join) → slice_get joins place ≡ Some join → slice_index_or lost join.gone None ≡ Some place

-- each edge made the join at its place, between the trees of its two nodes
pub record AreJoinedBy (edges : List Edge) (joins : List Join) : Type 0 where
  pub count : length joins ≡ length edges
  pub passes : (place : ℕ) (edge : Edge) (join : Join) → slice_get edges place ≡ Some edge → slice_get joins place ≡ Some join
      → Passes edge join.from join.to
  pub from : (place : ℕ) (join : Join) → slice_get joins place ≡ Some join → climbed join.from (take place joins) ≡ join.gone
  pub to : (place : ℕ) (join : Join) → slice_get joins place ≡ Some join → climbed join.to (take place joins) ≡ join.kept

-- a join of the trees of a and b, in either direction
pub record IsJoinOf (joins : List Join) (a b : ℕ) (join : Join) : Type 0 where
  pub ends : ((join.from ≡ a) × (join.to ≡ b)) ⊎ ((join.from ≡ b) × (join.to ≡ a))
  pub gone : join.gone ≡ climbed join.from joins
  pub kept : join.kept ≡ climbed join.to joins

-- the join at this place put a and b into one tree: near is its node in the tree of a, far that in the tree of b
pub record IsSplit (joins : List Join) (a b place near far : ℕ) : Type 0 where
  pub join : Join
  pub stands : slice_get joins place ≡ Some join
  pub sides : ((climbed a (take place joins) ≡ join.gone) × (climbed b (take place joins) ≡ join.kept) × (near ≡ join.from) × (far ≡ join.to))
      ⊎ ((climbed a (take place joins) ≡ join.kept) × (climbed b (take place joins) ≡ join.gone) × (near ≡ join.to) × (far ≡ join.from))

-- the edges at these places are the way from a to b: none stands twice, and each is below every k for which the first k joins
-- put a and b into one tree
pub record IsTreeWay (edges : List Edge) (joins : List Join) (a b : ℕ) (places : List ℕ) : Type 0 where
  pub leads : Leads edges places a b
  pub apart : AreApart places
  pub below : (k : ℕ) → AreSameAt joins k a b → (place : ℕ) → Contains places place → place < k
  pub near : (k : ℕ) → AreSameAt joins k a b → (place : ℕ) → Contains places place
      → (edge : Edge) × (slice_get edges place ≡ Some edge) × AreSameAt joins k edge.left a

-- what is written for a part of a way
abbrev pub FillsLeg : List Edge → List Join → Leg → List ℕ → Type 0
FillsLeg edges joins (Pass place) own = own ≡ place ∷ []
FillsLeg edges joins (Between a b) own = IsTreeWay edges joins a b own

-- what is written for parts of a way, the last of them first
abbrev pub Fills : List Edge → List Join → List Leg → List ℕ → Type 0
Fills edges joins [] rest = rest ≡ []
Fills edges joins (leg ∷ legs) rest =
    (front : List ℕ) × (own : List ℕ) × Fills edges joins legs front × FillsLeg edges joins leg own × (rest ≡ front ++ own)

-- the two nodes of a part of a way are in one tree
abbrev pub IsJoinedLeg : List Join → Leg → Type 0
IsJoinedLeg joins (Pass place) = Unit {0}
IsJoinedLeg joins (Between a b) = climbed a joins ≡ climbed b joins

abbrev pub AreJoinedLegs : List Join → List Leg → Type 0
AreJoinedLegs joins [] = Unit {0}
AreJoinedLegs joins (leg ∷ legs) = IsJoinedLeg joins leg × AreJoinedLegs joins legs

-- how many joins are made before two nodes are in one tree
abbrev pub time : ℕ → ℕ → List Join → ℕ
time a b [] = 0
time a b (join ∷ joins) = cond (nat_eq a b) 0 (suc (time (stepped a join) (stepped b join) joins))

-- more than twice what the number before has
abbrev pub doubled : ℕ → ℕ
doubled zero = 1
doubled (suc n) = doubled n + doubled n + 2

-- how much is left to do
abbrev pub leg_weight : List Join → Leg → ℕ
leg_weight joins (Pass place) = 1
leg_weight joins (Between a b) = doubled (time a b joins)

abbrev pub weight : List Join → List Leg → ℕ
weight joins [] = 0
weight joins (leg ∷ legs) = leg_weight joins leg + weight joins legs

-- a part of a way is written, or other parts stand in its place
pub record IsTaken (edges : List Edge) (joins : List Join) (legs : List Leg) (leg : Leg) (way : List ℕ) (left : List Leg) (written : List ℕ) : Type 0 where
  pub fills : (rest : List ℕ) → Fills edges joins left rest
      → (own : List ℕ) × (later : List ℕ) × FillsLeg edges joins leg own × Fills edges joins legs later × (written ++ rest ≡ way ++ (own ++ later))
  pub joined : AreJoinedLegs joins left
  pub lighter : weight joins left < leg_weight joins leg + weight joins legs
