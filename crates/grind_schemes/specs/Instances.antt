-- What a scheme becomes among nodes once nodes stand for its variables.
use Rattle.std.specs.Prelude.{◌≡◌, ℕ, List, [], ◌∷◌, Some, map, slice_get, slice_index_or}
use Rattle.grind_term_graph.specs.declared.head.Head.{Head}
use Rattle.grind_term_graph.specs.declared.node.Node.{Node}
use Rattle.grind_term_graph.specs.Terms.{Terms, sort_at}
use Rattle.grind_term_graph.specs.Shape.{IsTable}
pub use Rattle.grind_term_graph.specs.Beginnings.{BeginsWith}
use Rattle.grind_term_graph.specs.Placed.{placed}
use Rattle.grind_schemes.specs.declared.scheme.Scheme.{Scheme, Var, Apply', Row_of-Scheme, end_of-Scheme, more_of-Scheme}
use Rattle.grind_schemes.specs.Schemes.{IsScheme}

-- the node of these parts
abbrev pub node_of : Head → ℕ → List ℕ → Node
node_of head sort args = record { head = head; sort = sort; args = args }

-- the nodes once the scheme is put among them, and the number of its node: arguments go before their node and from
-- the left, and a node that stands there already is not put there again
abbrev mutual
  pub interned : List Node → List ℕ → Scheme → List Node × ℕ
  interned nodes subst (Var number) = (nodes, slice_index_or subst number 0)
  interned nodes subst (Apply' head sort shape args) =
      let done = interned_row nodes subst args in placed done.0 (node_of head sort done.1)

  pub interned_row : {m : _} → List Node → List ℕ → Row_of-Scheme m → List Node × List ℕ
  interned_row nodes subst end_of-Scheme = (nodes, [])
  interned_row nodes subst (more_of-Scheme first rest) =
      let one = interned nodes subst first in
      let others = interned_row one.0 subst rest in (others.0, one.1 ∷ others.1)

-- a table on its way to these nodes, with some of what is new there and the same limit
pub record IsUnderway (before after : Terms) (nodes : List Node) : Type 0 where
  pub grows : BeginsWith before.nodes after.nodes
  pub within : BeginsWith after.nodes nodes
  pub limit : after.limit ≡ before.limit

-- the substitution has a node of the right sort for each variable
abbrev pub IsSubstitution : List Node → List ℕ → List ℕ → Type 0
IsSubstitution nodes vars subst = map (sort_at nodes) subst ≡ map Some vars

-- the scheme is well formed over variables for which the substitution has nodes
abbrev pub Suits : List Node → List ℕ → Scheme → Type 0
Suits nodes subst scheme = (vars : List ℕ) × IsSubstitution nodes vars subst × IsScheme vars scheme

-- the node of this number is the scheme with the nodes of the substitution for its variables
abbrev mutual
  pub IsInstance : List Node → List ℕ → Scheme → ℕ → Type 0
  IsInstance nodes subst (Var number) id = slice_get subst number ≡ Some id
  IsInstance nodes subst (Apply' head sort shape args) id =
      (ids : List ℕ) × (slice_get nodes id ≡ Some (node_of head sort ids)) × AreInstances nodes subst args ids

  pub AreInstances : {m : _} → List Node → List ℕ → Row_of-Scheme m → List ℕ → Type 0
  AreInstances nodes subst end_of-Scheme ids = ids ≡ []
  AreInstances nodes subst (more_of-Scheme first rest) ids =
      (id : ℕ) × (others : List ℕ) × (ids ≡ id ∷ others)
      × IsInstance nodes subst first id × AreInstances nodes subst rest others

-- the node that a scheme becomes stands for its instance
abbrev pub StandsForTheInstance : Type 0
StandsForTheInstance =
    (nodes : List Node) (vars subst : List ℕ) (scheme : Scheme) →
    IsSubstitution nodes vars subst → IsScheme vars scheme →
    IsInstance (interned nodes subst scheme).0 subst scheme (interned nodes subst scheme).1

-- in a table at most one node does
abbrev pub OneInstance : Type 0
OneInstance =
    (nodes : List Node) (subst : List ℕ) (scheme : Scheme) (one other : ℕ) →
    IsTable [] nodes → IsInstance nodes subst scheme one → IsInstance nodes subst scheme other → one ≡ other
