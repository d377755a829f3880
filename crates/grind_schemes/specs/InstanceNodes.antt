-- Which nodes an instance has, and which of them are new to a table.
use Rattle.std.specs.Prelude.{◌≡◌, ◌⊎◌, ℕ, ◌<◌, ◌≤◌, List, [], length, Some, All, Contains, slice_get}
use Rattle.grind_term_graph.specs.declared.node.Node.{Node}
use Rattle.grind_term_graph.specs.Shape.{IsTable}
use Rattle.grind_term_graph.specs.Beginnings.{BeginsWith}
use Rattle.grind_schemes.specs.declared.scheme.Scheme.{Scheme, Var, Apply', Row_of-Scheme, end_of-Scheme, more_of-Scheme}
use Rattle.grind_schemes.specs.Schemes.{IsScheme}
use Rattle.grind_schemes.specs.Instances.{interned, IsSubstitution, IsInstance}

-- the node of this number is one of the instance: it stands for the scheme or for a part of it, with the nodes of the
-- substitution for its variables
abbrev mutual
  pub IsInstanceNode : List Node → List ℕ → Scheme → ℕ → Type 0
  IsInstanceNode nodes subst (Var number) id = slice_get subst number ≡ Some id
  IsInstanceNode nodes subst (Apply' head sort shape args) id =
      IsInstance nodes subst (Apply' head sort shape args) id ⊎ IsNodeOfOne nodes subst args id

  pub IsNodeOfOne : {m : _} → List Node → List ℕ → Row_of-Scheme m → ℕ → Type 0
  IsNodeOfOne nodes subst end_of-Scheme id = ⊥
  IsNodeOfOne nodes subst (more_of-Scheme first rest) id = IsInstanceNode nodes subst first id ⊎ IsNodeOfOne nodes subst rest id

-- each node past the first ones is one of the instance
abbrev pub AreInstanceNodesPast : ℕ → List Node → List ℕ → Scheme → Type 0
AreInstanceNodesPast count nodes subst scheme =
    (id : ℕ) → count ≤ id → id < length nodes → IsInstanceNode nodes subst scheme id

-- the absent nodes of the instance were appended to the others, arguments first, and nothing else; the node of this number
-- stands for the instance
pub record AddsInstance (before : List Node) (subst : List ℕ) (scheme : Scheme) (after : List Node) (id : ℕ) : Type 0 where
  pub grows : BeginsWith before after
  pub stands : IsInstance after subst scheme id
  pub only : AreInstanceNodesPast (length before) after subst scheme
  pub table : IsTable [] before → IsTable [] after

-- what a scheme adds are the absent nodes of its instance
abbrev pub SchemesAddTheirInstances : Type 0
SchemesAddTheirInstances =
    (nodes : List Node) (vars subst : List ℕ) (scheme : Scheme) → IsSubstitution nodes vars subst → IsScheme vars scheme →
    AddsInstance nodes subst scheme (interned nodes subst scheme).0 (interned nodes subst scheme).1

-- where the nodes grow, the nodes of an instance stay
abbrev pub InstanceNodesStay : Type 0
InstanceNodesStay =
    (before after : List Node) (subst : List ℕ) (scheme : Scheme) (id : ℕ) → BeginsWith before after →
    IsInstanceNode before subst scheme id → IsInstanceNode after subst scheme id

-- in a table, a node of an instance is one of the substitution, or its arguments are nodes of the instance
abbrev pub InstanceNodesHaveTheirArguments : Type 0
InstanceNodesHaveTheirArguments =
    (nodes : List Node) (subst : List ℕ) (scheme : Scheme) (id : ℕ) (node : Node) → IsInstanceNode nodes subst scheme id →
    slice_get nodes id ≡ Some node → Contains subst id ⊎ All (IsInstanceNode nodes subst scheme) node.args
