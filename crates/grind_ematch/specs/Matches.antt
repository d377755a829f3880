-- What theorems are matched against, and what the matches of a theorem are.
use Rattle.std.specs.Prelude.{◌≡◌, ◌⊎◌, ℕ, ◌≤◌, max, List, [], ◌∷◌, Some, All, Contains, length, slice_get, slice_index_or}
use Rattle.std.specs.List.{Any}
use Rattle.grind_term_graph.specs.declared.node.Node.{Node}
use Rattle.grind_term_graph.specs.Terms.{sort_at}
use Rattle.grind_classes.specs.Classes.{IsActive, AreTogether}
use Rattle.grind_schemes.specs.declared.scheme.Scheme.{Scheme, Var, Apply', Row_of-Scheme, end_of-Scheme, more_of-Scheme}
use Rattle.grind_schemes.specs.Instances.{node_of, IsSubstitution}
use Rattle.grind_schemes.specs.Theorems.{TheoremData}
use Rattle.grind_ematch.specs.declared.found.Match.{Match}

-- what theorems are matched against: nodes, classes of the active ones, and the generation of each node
pub record Scene : Type 0 where
  pub nodes : List Node
  pub classes : List (List ℕ)
  pub generations : List ℕ

-- the scene of these parts
abbrev pub scene_of : List Node → List (List ℕ) → List ℕ → Scene
scene_of nodes classes generations = record { nodes = nodes; classes = classes; generations = generations }

-- each active node is among the nodes and has active arguments, the nodes of a class have one sort, and each node
-- has a generation
pub record IsScene (scene : Scene) : Type 0 where
  pub active : (n : ℕ) → IsActive scene.classes n →
      (node : Node) × (slice_get scene.nodes n ≡ Some node) × All (IsActive scene.classes) node.args
  pub sorts : (a b : ℕ) → AreTogether scene.classes a b → sort_at scene.nodes a ≡ sort_at scene.nodes b
  pub generations : length scene.generations ≡ length scene.nodes

-- the generation of a node
abbrev pub generation_of : Scene → ℕ → ℕ
generation_of scene n = slice_index_or scene.generations n 0

-- the variable stands for a node of the class of this one
abbrev pub IsBoundTo : Scene → List ℕ → ℕ → ℕ → Type 0
IsBoundTo scene subst variable n =
    (other : ℕ) × (slice_get subst variable ≡ Some other) × AreTogether scene.classes other n

-- the pattern under the substitution equals the node up to class, and this is the greatest generation of the nodes
-- that the pattern uses where it is no variable: an active node has the head of the pattern, and each argument of
-- the pattern equals some member of the class of the node's argument
abbrev mutual
  pub Meets : Scene → List ℕ → Scheme → ℕ → ℕ → Type 0
  Meets scene subst (Var number) n generation = IsBoundTo scene subst number n × (generation ≡ 0)
  Meets scene subst (Apply' head sort shape args) n generation =
      (ids : List ℕ) × (inner : ℕ) × IsActive scene.classes n
      × (slice_get scene.nodes n ≡ Some (node_of head sort ids))
      × RowMeets scene subst args ids inner × (generation ≡ max (generation_of scene n) inner)

  pub RowMeets : {m : _} → Scene → List ℕ → Row_of-Scheme m → List ℕ → ℕ → Type 0
  RowMeets scene subst end_of-Scheme ids generation = (ids ≡ []) × (generation ≡ 0)
  RowMeets scene subst (more_of-Scheme first rest) ids generation =
      (id : ℕ) × (others : List ℕ) × (member : ℕ) × (one : ℕ) × (other : ℕ) × (ids ≡ id ∷ others)
      × AreTogether scene.classes id member × Meets scene subst first member one
      × RowMeets scene subst rest others other × (generation ≡ max one other)

-- each of the patterns equals some node up to class, and this is the greatest generation of the nodes that they use
abbrev pub MeetEach : Scene → List ℕ → List Scheme → ℕ → Type 0
MeetEach scene subst [] generation = generation ≡ 0
MeetEach scene subst (pattern ∷ patterns) generation =
    (n : ℕ) × (one : ℕ) × (other : ℕ) × Meets scene subst pattern n one × MeetEach scene subst patterns other
    × (generation ≡ max one other)

-- a theorem without variables is matched at generation 0, and every other by one of its pattern lists
abbrev pub IsMet : Scene → TheoremData → List ℕ → ℕ → Type 0
IsMet scene theorem subst generation =
    ((theorem.vars ≡ []) × (generation ≡ 0))
    ⊎ ((patterns : List Scheme) × Contains theorem.patterns patterns × MeetEach scene subst patterns generation)

-- the substitution is a match of the theorem, of this generation
abbrev pub IsMatchOf : Scene → TheoremData → List ℕ → ℕ → Type 0
IsMatchOf scene theorem subst generation =
    IsSubstitution scene.nodes theorem.vars subst × IsMet scene theorem subst generation

-- the substitutions have nodes of one class for each variable
abbrev pub AreEqualUpToClass : Scene → List ℕ → List ℕ → Type 0
AreEqualUpToClass scene [] [] = Unit {0}
AreEqualUpToClass scene (one ∷ ones) (other ∷ others) =
    AreTogether scene.classes one other × AreEqualUpToClass scene ones others
AreEqualUpToClass scene _ _ = ⊥

-- a match of the theorem, of generation at most this, whose nodes are active
abbrev pub IsListedMatch : Scene → TheoremData → ℕ → ℕ → Match → Type 0
IsListedMatch scene theorem number most found =
    (found.theorem ≡ number) × IsMatchOf scene theorem found.subst found.generation × (found.generation ≤ most)
    × All (IsActive scene.classes) found.subst

-- each of the list is a match of the theorem of this number, of generation at most this
abbrev pub ListsMatches : Scene → List TheoremData → ℕ → ℕ → List Match → Type 0
ListsMatches scene theorems number most list =
    (theorem : TheoremData) → slice_get theorems number ≡ Some theorem →
    All (IsListedMatch scene theorem number most) list

-- each match of the theorem of this number, of generation at most this, is up to class in the list, where it has no
-- greater generation
abbrev pub ListsEachMatch : Scene → List TheoremData → ℕ → ℕ → List Match → Type 0
ListsEachMatch scene theorems number most list =
    (theorem : TheoremData) → slice_get theorems number ≡ Some theorem →
    (subst : List ℕ) (generation : ℕ) → IsMatchOf scene theorem subst generation → generation ≤ most →
    Any (λ (found : Match). AreEqualUpToClass scene found.subst subst × (found.generation ≤ generation)) list
