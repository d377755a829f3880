-- What stands for an instance.
use Rattle.std.proofs.Common.{◌≡◌, ℕ, arith, List, [], ◌∷◌, Some, length, refl, sym, ap, ◌∙◌, subst}
use Rattle.std.specs.Prelude.{slice_get}
use Rattle.std.proofs.lemmas.List.{length-map}
use Rattle.std.proofs.lemmas.Option.{slice_get-get_or}
use Rattle.grind_term_graph.specs.declared.node.Node.{Node}
use Rattle.grind_term_graph.specs.Terms.{sort_at}
use Rattle.grind_term_graph.specs.Shape.{IsTable}
use Rattle.grind_term_graph.specs.Placed.{placed}
use Rattle.grind_term_graph.proofs.Placing.{slice_get-placed, slice_get-append, placed-grows}
use Rattle.grind_term_graph.proofs.Tables.{number_unique}
use Rattle.grind_schemes.specs.declared.scheme.Scheme.{Scheme, Var, Apply', Row_of-Scheme, end_of-Scheme, more_of-Scheme}
use Rattle.grind_schemes.specs.Schemes.{IsScheme, AreSchemes}
use Rattle.grind_schemes.specs.Instances.{node_of, interned, interned_row, BeginsWith, IsSubstitution, IsInstance, AreInstances}
use Rattle.grind_schemes.proofs.InstanceLemmas.{interned_row-grows}

-- a node stands for the instance in a longer list too
mutual
  pub IsInstance-grows : (substitution : List ℕ) (scheme : Scheme) (nodes more : List Node) (id : ℕ)
      → BeginsWith nodes more → IsInstance nodes substitution scheme id → IsInstance more substitution scheme id
  IsInstance-grows substitution (Var number) nodes more id grows h = h
  IsInstance-grows substitution (Apply' head sort shape args) nodes more id grows h = (
    h.0,
    subst (λ (ns : List Node). slice_get ns id ≡ Some (node_of head sort h.0)) (sym grows.1)
        (slice_get-append nodes grows.0 id (node_of head sort h.0) h.1),
    AreInstances-grows substitution _ args nodes more h.0 grows h.2,
  )

  pub AreInstances-grows : (substitution : List ℕ) (n : _) (row : Row_of-Scheme n) (nodes more : List Node) (ids : List ℕ)
      → BeginsWith nodes more → AreInstances nodes substitution row ids → AreInstances more substitution row ids
  AreInstances-grows substitution n end_of-Scheme nodes more ids grows h = h
  AreInstances-grows substitution n (more_of-Scheme first rest) nodes more ids grows h = (
    h.0,
    h.1,
    h.2,
    IsInstance-grows substitution first nodes more h.0 grows h.3,
    AreInstances-grows substitution _ rest nodes more h.1 grows h.4,
  )

-- what a scheme becomes stands for its instance
mutual
  pub stands : (substitution vars : List ℕ) (scheme : Scheme) (nodes : List Node) → length substitution ≡ length vars
      → IsScheme vars scheme
      → IsInstance (interned nodes substitution scheme).0 substitution scheme (interned nodes substitution scheme).1
  stands substitution vars (Var number) nodes e formed = slice_get-get_or substitution number 0 (omega (arith, formed))
  stands substitution vars (Apply' head sort shape args) nodes e formed =
      let done = interned_row nodes substitution args in
      let node = node_of head sort done.1 in (
        done.1,
        slice_get-placed done.0 node,
        AreInstances-grows substitution _ args done.0 (placed done.0 node).0 done.1 (placed-grows done.0 node)
            (stands_row substitution vars _ args nodes e formed.1),
      )

  pub stands_row : (substitution vars : List ℕ) (n : _) (row : Row_of-Scheme n) (nodes : List Node)
      → length substitution ≡ length vars → AreSchemes vars row
      → AreInstances (interned_row nodes substitution row).0 substitution row (interned_row nodes substitution row).1
  stands_row substitution vars n end_of-Scheme nodes e formed = refl
  stands_row substitution vars n (more_of-Scheme first rest) nodes e formed =
      let one = interned nodes substitution first in
      let others = interned_row one.0 substitution rest in (
        one.1,
        others.1,
        refl,
        IsInstance-grows substitution first one.0 others.0 one.1 (interned_row-grows substitution _ rest one.0)
            (stands substitution vars first nodes e formed.0),
        stands_row substitution vars _ rest one.0 e formed.1,
      )

-- a substitution has a node for each variable
pub as_many : (nodes : List Node) (vars substitution : List ℕ) → IsSubstitution nodes vars substitution
    → length substitution ≡ length vars
as_many nodes vars substitution e =
    sym (length-map substitution (sort_at nodes)) ∙ ap length e ∙ length-map vars Some

-- in a table at most one node stands for an instance
mutual
  pub instance_unique : (substitution : List ℕ) (scheme : Scheme) (nodes : List Node) (one other : ℕ) → IsTable [] nodes
      → IsInstance nodes substitution scheme one → IsInstance nodes substitution scheme other → one ≡ other
  instance_unique substitution (Var number) nodes one other table h k = same_value one other (sym h ∙ k)
    where
      same_value : (a b : ℕ) → Some a ≡ Some b → a ≡ b
      same_value a b e = cc
  instance_unique substitution (Apply' head sort shape args) nodes one other table h k =
      let same = instances_unique substitution _ args nodes h.0 k.0 table h.2 k.2 in
      number_unique nodes one other (node_of head sort k.0) table
      (subst (λ (ids : List ℕ). slice_get nodes one ≡ Some (node_of head sort ids)) same h.1) k.1

  pub instances_unique : (substitution : List ℕ) (n : _) (row : Row_of-Scheme n) (nodes : List Node) (xs ys : List ℕ)
      → IsTable [] nodes → AreInstances nodes substitution row xs → AreInstances nodes substitution row ys → xs ≡ ys
  instances_unique substitution n end_of-Scheme nodes xs ys table h k = h ∙ sym k
  instances_unique substitution n (more_of-Scheme first rest) nodes xs ys table h k =
      let here = instance_unique substitution first nodes h.0 k.0 table h.3 k.3 in
      let there = instances_unique substitution _ rest nodes h.1 k.1 table h.4 k.4 in
      h.2 ∙ items_same h.0 k.0 h.1 k.1 here there ∙ sym k.2
    where
      items_same : (a b : ℕ) (xs ys : List ℕ) → a ≡ b → xs ≡ ys → a ∷ xs ≡ b ∷ ys
      items_same a b xs ys e f = cc
