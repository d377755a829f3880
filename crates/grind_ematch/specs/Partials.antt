-- Lists of partial matches, and what they stand for.
use Rattle.std.specs.Prelude.{◌≡◌, ℕ, ◌<◌, ◌≤◌, ◌⊎◌, ◌↔◌, max, List, [], ◌∷◌, ◌++◌, Option, Some, None, Contains, length, map, slice_get, IfSome}
use Rattle.std.specs.List.{Any}
use Rattle.grind_term_graph.specs.declared.head.Head.{Head}
use Rattle.grind_term_graph.specs.declared.node.Node.{Node}
use Rattle.grind_term_graph.specs.Terms.{sort_at}
use Rattle.grind_classes.specs.Classes.{IsIn, IsActive, IsPartition, AreTogether}
use Rattle.grind_schemes.specs.declared.scheme.Scheme.{Scheme, Var}
use Rattle.grind_schemes.specs.Instances.{IsSubstitution}
use Rattle.grind_schemes.specs.Schemes.{HasVar}
use Rattle.grind_schemes.specs.Theorems.{TheoremData}
use Rattle.grind_ematch.specs.Matches.{Scene, IsScene, Meets, MeetEach, IsMet}
use Rattle.grind_ematch.specs.declared.partial.Partial.{Partial}
use Rattle.grind_ematch.specs.declared.found.Match.{Match}

-- what is looked for: matches in a scene, for variables of these sorts, of generation at most this
pub record QueryData : Type 0 where
  pub scene : Scene
  pub vars : List ℕ
  pub most : ℕ

-- the query of these parts
abbrev pub query_of : Scene → List ℕ → ℕ → QueryData
query_of scene vars most = record { scene = scene; vars = vars; most = most }

-- what holds of every query
pub record IsQuery (query : QueryData) : Type 0 where
  pub scene : IsScene query.scene
  pub partition : IsPartition query.scene.classes

-- each slot is empty or has a root of the sort of its variable
abbrev pub AreSlots : Scene → List ℕ → List (Option ℕ) → Type 0
AreSlots scene [] [] = Unit {0}
AreSlots scene (sort ∷ vars) (slot ∷ slots) =
    IfSome slot (λ root. IsIn scene.classes root root × (sort_at scene.nodes root ≡ Some sort)) × AreSlots scene vars slots
AreSlots scene _ _ = ⊥

-- where a slot has a root, the substitution has a node of its class
abbrev pub Agrees : Scene → List (Option ℕ) → List ℕ → Type 0
Agrees scene [] [] = Unit {0}
Agrees scene (slot ∷ slots) (n ∷ subst) = IfSome slot (λ root. IsIn scene.classes root n) × Agrees scene slots subst
Agrees scene _ _ = ⊥

-- the slot of the variable has a root
abbrev pub IsBound : List (Option ℕ) → ℕ → Type 0
IsBound slots variable = (root : ℕ) × (slice_get slots variable ≡ Some (Some root))

-- what two slots have together; none where they have different roots
abbrev pub IsUnion : Option ℕ → Option ℕ → Option ℕ → Type 0
IsUnion None other both = both ≡ other
IsUnion (Some root) None both = both ≡ Some root
IsUnion (Some root) (Some other) both = (root ≡ other) × (both ≡ Some root)

-- what two lists of slots have together
abbrev pub AreUnion : List (Option ℕ) → List (Option ℕ) → List (Option ℕ) → Type 0
AreUnion [] [] both = both ≡ []
AreUnion (one ∷ ones) (other ∷ others) both =
    (slot : Option ℕ) × (slots : List (Option ℕ)) × (both ≡ slot ∷ slots) × IsUnion one other slot × AreUnion ones others slots
AreUnion _ _ both = ⊥

-- they have nothing together
abbrev pub HasNoUnion : List (Option ℕ) → List (Option ℕ) → Type 0
HasNoUnion ones others = (both : List (Option ℕ)) → ¬ AreUnion ones others both

-- a partial match of the query
pub record IsPartial (query : QueryData) (partial : Partial) : Type 0 where
  pub slots : AreSlots query.scene query.vars partial.slots
  pub generation : partial.generation ≤ query.most

-- the partial matches stand for the ways P of matching, by a substitution and a generation: each of them is such a way
-- whatever its empty slots become, and each way is, up to class and with no greater generation, among them. Each has a
-- root for the variables of W.
pub record Represents (query : QueryData) (P : List ℕ → ℕ → Type 0) (W : ℕ → Type 0) (list : List Partial) : Type 0 where
  pub formed : (partial : Partial) → Contains list partial → IsPartial query partial
  pub bound : (partial : Partial) → Contains list partial → (variable : ℕ) → W variable → IsBound partial.slots variable
  pub sound : (partial : Partial) → Contains list partial → (subst : List ℕ) →
      Agrees query.scene partial.slots subst → P subst partial.generation
  pub complete : (subst : List ℕ) (generation : ℕ) → IsSubstitution query.scene.nodes query.vars subst →
      P subst generation → generation ≤ query.most →
      (partial : Partial) × Contains list partial × Agrees query.scene partial.slots subst × (partial.generation ≤ generation)

-- the pattern equals some member of the class of a node
abbrev pub MeetsClass : Scene → Scheme → ℕ → List ℕ → ℕ → Type 0
MeetsClass scene pattern id subst generation =
    (member : ℕ) × AreTogether scene.classes id member × Meets scene subst pattern member generation

-- each of the patterns equals some member of the class of the node at its place
abbrev pub MeetClasses : Scene → List Scheme → List ℕ → List ℕ → ℕ → Type 0
MeetClasses scene [] ids subst generation = (ids ≡ []) × (generation ≡ 0)
MeetClasses scene (first ∷ rest) ids subst generation =
    (id : ℕ) × (others : List ℕ) × (one : ℕ) × (other : ℕ) × (ids ≡ id ∷ others) × MeetsClass scene first id subst one
    × MeetClasses scene rest others subst other × (generation ≡ max one other)

-- so does each, and the greatest generation is at least the given one
unfoldable pub MeetFrom : Scene → ℕ → List Scheme → List ℕ → List ℕ → ℕ → Type 0
MeetFrom scene from patterns ids subst generation =
    (inner : ℕ) × MeetClasses scene patterns ids subst inner × (generation ≡ max from inner)

-- the pattern equals one of the nodes
unfoldable pub MeetsOneOf : Scene → Scheme → List ℕ → List ℕ → ℕ → Type 0
MeetsOneOf scene pattern nodes subst generation = (n : ℕ) × Contains nodes n × Meets scene subst pattern n generation

-- the pattern equals some node
unfoldable pub MeetsSome : Scene → Scheme → List ℕ → ℕ → Type 0
MeetsSome scene pattern subst generation = (n : ℕ) × Meets scene subst pattern n generation

-- each of the patterns equals some node
unfoldable pub MeetAll : Scene → List Scheme → List ℕ → ℕ → Type 0
MeetAll scene patterns subst generation = MeetEach scene subst patterns generation

-- the variable stands in one of the patterns
unfoldable pub IsVarOf : List Scheme → ℕ → Type 0
IsVarOf patterns variable = Any (HasVar variable) patterns

-- the variable stands in the pattern
unfoldable pub IsVarIn : Scheme → ℕ → Type 0
IsVarIn pattern variable = HasVar variable pattern

-- the partial matches of several patterns, each at the class of its node, of generation at least the given one
abbrev pub ListsClasses : QueryData → ℕ → List Scheme → List ℕ → List Partial → Type 0
ListsClasses query from patterns ids = Represents query (MeetFrom query.scene from patterns ids) (IsVarOf patterns)

-- those of a pattern at these nodes
abbrev pub ListsOneOf : QueryData → Scheme → List ℕ → List Partial → Type 0
ListsOneOf query pattern nodes = Represents query (MeetsOneOf query.scene pattern nodes) (IsVarIn pattern)

-- those of a pattern at all nodes
abbrev pub ListsSome : QueryData → Scheme → List Partial → Type 0
ListsSome query pattern = Represents query (MeetsSome query.scene pattern) (IsVarIn pattern)

-- those of several patterns at all nodes
abbrev pub ListsAll : QueryData → List Scheme → List Partial → Type 0
ListsAll query patterns = Represents query (MeetAll query.scene patterns) (IsVarOf patterns)

-- nodes at which a pattern is met, if it is at all in the class of the node
pub record AreTargets (scene : Scene) (pattern : Scheme) (id : ℕ) (nodes : List ℕ) : Type 0 where
  pub within : (n : ℕ) → Contains nodes n → AreTogether scene.classes id n
  pub enough : (subst : List ℕ) (member generation : ℕ) → AreTogether scene.classes id member →
      Meets scene subst pattern member generation → MeetsOneOf scene pattern nodes subst generation

-- an active node of this head
abbrev pub IsCandidate : Scene → Head → ℕ → Type 0
IsCandidate scene head n =
    IsActive scene.classes n × ((node : Node) × (slice_get scene.nodes n ≡ Some node) × (node.head ≡ head))

-- the active nodes of this head
abbrev pub AreCandidates : Scene → Head → List ℕ → Type 0
AreCandidates scene head nodes = (n : ℕ) → Contains nodes n ↔ IsCandidate scene head n

-- the list has what each two of the others have together, with the greater generation
pub record Joins (left right list : List Partial) : Type 0 where
  pub from : (partial : Partial) → Contains list partial → (one other : Partial) × Contains left one × Contains right other
      × AreUnion one.slots other.slots partial.slots × (partial.generation ≡ max one.generation other.generation)
  pub all : (one other : Partial) (slots : List (Option ℕ)) → Contains left one → Contains right other →
      AreUnion one.slots other.slots slots → (partial : Partial) × Contains list partial × (partial.slots ≡ slots)
      × (partial.generation ≤ max one.generation other.generation)

-- the list has partial matches of the other alone, and of those with the same slots one of the least generation
pub record Thins (old new : List Partial) : Type 0 where
  pub from : (partial : Partial) → Contains new partial → Contains old partial
  pub all : (partial : Partial) → Contains old partial → (other : Partial) × Contains new other
      × (other.slots ≡ partial.slots) × (other.generation ≤ partial.generation)

-- the list goes on with what the partial match has together with each of the others
pub record JoinsOne (one : Partial) (right old new : List Partial) : Type 0 where
  pub kept : (partial : Partial) → Contains old partial → Contains new partial
  pub from : (partial : Partial) → Contains new partial → Contains old partial ⊎ ((other : Partial) × Contains right other
      × AreUnion one.slots other.slots partial.slots × (partial.generation ≡ max one.generation other.generation))
  pub all : (other : Partial) (slots : List (Option ℕ)) → Contains right other → AreUnion one.slots other.slots slots →
      (partial : Partial) × Contains new partial × (partial.slots ≡ slots)
      × (partial.generation ≡ max one.generation other.generation)

-- the list has what either of the others has
pub record HoldsBoth (old more new : List Partial) : Type 0 where
  pub kept : (partial : Partial) → Contains old partial → Contains new partial
  pub added : (partial : Partial) → Contains more partial → Contains new partial
  pub from : (partial : Partial) → Contains new partial → Contains old partial ⊎ Contains more partial

-- the matches of the theorem of this number are the partial matches, whose slots all have a root
pub record AreMatchesOf (number : ℕ) (list : List Partial) (found : List Match) : Type 0 where
  pub from : (one : Match) → Contains found one → (partial : Partial) × Contains list partial
      × (one.theorem ≡ number) × (map Some one.subst ≡ partial.slots) × (one.generation ≡ partial.generation)
  pub all : (partial : Partial) → Contains list partial → (one : Match) × Contains found one
      × (map Some one.subst ≡ partial.slots) × (one.generation ≡ partial.generation)

-- each slot has a root
abbrev pub AreBound : List (Option ℕ) → Type 0
AreBound slots = (variable : ℕ) → variable < length slots → IsBound slots variable

-- the substitution makes one of the lists of patterns equal to nodes
unfoldable pub MeetAllOfOne : Scene → List (List Scheme) → List ℕ → ℕ → Type 0
MeetAllOfOne scene lists subst generation =
    (patterns : List Scheme) × Contains lists patterns × MeetAll scene patterns subst generation

-- a variable of the query
abbrev pub IsVarOfQuery : QueryData → ℕ → Type 0
IsVarOfQuery query variable = variable < length query.vars

-- the partial matches of lists of patterns
abbrev pub ListsAllOfOne : QueryData → List (List Scheme) → List Partial → Type 0
ListsAllOfOne query lists = Represents query (MeetAllOfOne query.scene lists) (IsVarOfQuery query)

-- the substitution matches the theorem
unfoldable pub MeetsTheorem : Scene → TheoremData → List ℕ → ℕ → Type 0
MeetsTheorem scene theorem subst generation = IsMet scene theorem subst generation

-- the partial matches of a theorem
abbrev pub ListsTheorem : QueryData → TheoremData → List Partial → Type 0
ListsTheorem query theorem = Represents query (MeetsTheorem query.scene theorem) (IsVarOfQuery query)

-- the nodes go on with this one, if it is an active node of the head
abbrev pub AddsCandidate : Scene → Head → ℕ → List ℕ → List ℕ → Type 0
AddsCandidate scene head n old new =
    (other : ℕ) → Contains new other ↔ (Contains old other ⊎ ((other ≡ n) × IsCandidate scene head n))

-- where the old partial matches are those of a variable at some nodes, the new ones are those at these and one more
abbrev pub GoesOnAt : QueryData → ℕ → ℕ → List Partial → List Partial → Type 0
GoesOnAt query number n old new =
    (done : List ℕ) → ListsOneOf query (Var number) done old → ListsOneOf query (Var number) (done ++ n ∷ []) new
