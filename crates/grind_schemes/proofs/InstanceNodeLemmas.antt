-- Which nodes a scheme adds.
use Rattle.std.proofs.Common.{◌≡◌, ◌⊎◌, inl, inr, true≢false, ltb, ℕ, ◌<◌, ◌≤◌, arith, List, [], Some, All, length, sym, ◌∙◌, subst}
use Rattle.std.specs.Prelude.{map, slice_get, Contains, Result, Ok, Err, IfOk}
use Rattle.std.proofs.lemmas.Bool.{cases_Bool, ltb-true, ltb-false}
use Rattle.std.proofs.lemmas.Option.{same_Some, slice_get_within, get_or_from_slice_get}
use Rattle.std.proofs.lemmas.List.Elements.{All-nil, All-cons}
use Rattle.std.specs.List.{list_any}
use Rattle.grind_term_graph.specs.declared.head.Head.{Head}
use Rattle.grind_term_graph.specs.declared.node.Node.{Node}
use Rattle.grind_term_graph.specs.declared.table.TermRefusal.{TermRefusal}
use Rattle.grind_term_graph.specs.Terms.{sort_at}
use Rattle.grind_term_graph.specs.Shape.{IsShaped, WellShaped, IsTable}
use Rattle.grind_term_graph.specs.Beginnings.{BeginsWith}
use Rattle.grind_term_graph.specs.Same.{is_same_node}
use Rattle.grind_term_graph.specs.Placed.{placed}
use Rattle.grind_term_graph.proofs.Placing.{placed-grows, placed-last, placed-present, placed-absent, same_node-found}
use Rattle.grind_term_graph.proofs.Tables.{IsTable-push}
use Rattle.grind_schemes.specs.declared.scheme.Scheme.{Scheme, Var, Apply', Row_of-Scheme, end_of-Scheme, more_of-Scheme, items-the_row-Scheme}
use Rattle.grind_schemes.specs.Schemes.{scheme_sort, row_sorts, IsScheme, AreSchemes}
use Rattle.grind_schemes.specs.Instances.{node_of, interned, interned_row, IsSubstitution, IsInstance, AreInstances}
use Rattle.grind_schemes.specs.InstanceRows.{interned_list}
use Rattle.grind_schemes.specs.InstanceNodes.{IsInstanceNode, IsNodeOfOne, AreInstanceNodesPast, AddsInstance}
use Rattle.grind_schemes.proofs.SchemeLemmas.{sorts_of_row, of_row}
use Rattle.grind_schemes.proofs.InstanceLemmas.{interned-grows, interned_row-grows, interned_row-list, interned_list-sorts, below_of_sorts, IsSubstitution-grows}
use Rattle.grind_schemes.proofs.InstanceLaws.{IsInstance-grows, AreInstances-grows, stands, stands_row, as_many}

-- a node of an instance is one in a longer list too
mutual
  pub instance_node-grows : (substitution : List ℕ) (scheme : Scheme) (nodes more : List Node) (id : ℕ) → BeginsWith nodes more
      → IsInstanceNode nodes substitution scheme id → IsInstanceNode more substitution scheme id
  instance_node-grows substitution (Var number) nodes more id grows h = h
  instance_node-grows substitution (Apply' head sort shape args) nodes more id grows (inl h) =
      inl (IsInstance-grows substitution (Apply' head sort shape args) nodes more id grows h)
  instance_node-grows substitution (Apply' head sort shape args) nodes more id grows (inr h) =
      inr (node_of_one-grows substitution _ args nodes more id grows h)

  node_of_one-grows : (substitution : List ℕ) (n : _) (row : Row_of-Scheme n) (nodes more : List Node) (id : ℕ) → BeginsWith nodes more
      → IsNodeOfOne nodes substitution row id → IsNodeOfOne more substitution row id
  node_of_one-grows substitution n end_of-Scheme nodes more id grows h = absurd h
  node_of_one-grows substitution n (more_of-Scheme first rest) nodes more id grows (inl h) =
      inl (instance_node-grows substitution first nodes more id grows h)
  node_of_one-grows substitution n (more_of-Scheme first rest) nodes more id grows (inr h) =
      inr (node_of_one-grows substitution _ rest nodes more id grows h)

either_side : (n m : ℕ) → (n < m) ⊎ (m ≤ n)
either_side n m = elim (cases_Bool (ltb n m)) [ inl e ↦ inl (ltb-true n m e) | inr e ↦ inr (ltb-false n m e) ]

-- what a scheme adds are nodes of its instance
mutual
  pub only_instances : (substitution vars : List ℕ) (scheme : Scheme) (nodes : List Node) → length substitution ≡ length vars
      → IsScheme vars scheme → AreInstanceNodesPast (length nodes) (interned nodes substitution scheme).0 substitution scheme
  only_instances substitution vars (Var number) nodes e formed = λ id past below. absurd (omega arith)
  only_instances substitution vars (Apply' head sort shape args) nodes e formed = λ id past below.
      let done = interned_row nodes substitution args in
      let node = node_of head sort done.1 in
      elim (either_side id (length done.0)) [
        | inl before ↦ inr (node_of_one-grows substitution _ args done.0 (placed done.0 node).0 id (placed-grows done.0 node)
            (only_row substitution vars _ args nodes e formed.1 id past before))
        | inr behind ↦ inl (
          done.1,
          placed-last done.0 node id behind below,
          AreInstances-grows substitution _ args done.0 (placed done.0 node).0 done.1 (placed-grows done.0 node)
              (stands_row substitution vars _ args nodes e formed.1),
        )
      ]

  only_row : (substitution vars : List ℕ) (n : _) (row : Row_of-Scheme n) (nodes : List Node) → length substitution ≡ length vars
      → AreSchemes vars row → (id : ℕ) → length nodes ≤ id → id < length (interned_row nodes substitution row).0
      → IsNodeOfOne (interned_row nodes substitution row).0 substitution row id
  only_row substitution vars n end_of-Scheme nodes e formed id past below = absurd (omega arith)
  only_row substitution vars n (more_of-Scheme first rest) nodes e formed id past below =
      let one = interned nodes substitution first in
      let others = interned_row one.0 substitution rest in
      elim (either_side id (length one.0)) [
        | inl before ↦ inl (instance_node-grows substitution first one.0 others.0 id (interned_row-grows substitution _ rest one.0)
            (only_instances substitution vars first nodes e formed.0 id past before))
        | inr behind ↦ inr (only_row substitution vars _ rest one.0 e formed.1 id behind below)
      ]

-- a table stays one where a node that fits is put there
table-placed : (nodes : List Node) (node : Node) → IsTable [] nodes → WellShaped nodes node → IsTable [] (placed nodes node).0
table-placed nodes node table shaped =
    elim (cases_Bool (list_any (is_same_node node) nodes)) [
      | inl e ↦ subst (IsTable []) (sym (placed-present nodes node ((same_node-found nodes node).0 e))) table
      | inr e ↦
          let new : ¬ Contains nodes node = λ has. true≢false (sym ((same_node-found nodes node).1 has) ∙ e) in
          subst (IsTable []) (sym (placed-absent nodes node new)) (IsTable-push [] nodes node table shaped new)
    ]

-- the node of a head fits after those of its arguments
fits_behind_row : (substitution vars : List ℕ) (head : Head) (sort : ℕ) (n : _) (row : Row_of-Scheme n) (nodes : List Node)
    → IsSubstitution nodes vars substitution → IsShaped head sort (row_sorts vars row) → AreSchemes vars row
    → WellShaped (interned_row nodes substitution row).0 (node_of head sort (interned_row nodes substitution row).1)
fits_behind_row substitution vars head sort n row nodes e shaped formed =
    let items = items-the_row-Scheme n row in
    let each = of_row vars n row formed in
    let same = interned_row-list substitution n row nodes in
    let sorts : map (sort_at (interned_list nodes substitution items).0) (interned_list nodes substitution items).1 ≡ map (scheme_sort vars) items =
    interned_list-sorts vars substitution items nodes e each in
    let sorts_too : map (sort_at (interned_row nodes substitution row).0) (interned_row nodes substitution row).1 ≡ map (scheme_sort vars) items =
    (λ i. map (sort_at (same i).0) (same i).1) ∙ sorts in (
      below_of_sorts (interned_row nodes substitution row).0 vars items (interned_row nodes substitution row).1 each sorts_too,
      subst (IsShaped head sort) (sorts_of_row vars n row ∙ sym sorts_too) shaped,
    )

-- a table stays one where a scheme is put there
mutual
  pub interned-table : (substitution vars : List ℕ) (scheme : Scheme) (nodes : List Node) → IsSubstitution nodes vars substitution
      → IsScheme vars scheme → IsTable [] nodes → IsTable [] (interned nodes substitution scheme).0
  interned-table substitution vars (Var number) nodes e formed table = table
  interned-table substitution vars (Apply' head sort shape args) nodes e formed table =
      let done = interned_row nodes substitution args in
      table-placed done.0 (node_of head sort done.1) (row-table substitution vars _ args nodes e formed.1 table)
      (fits_behind_row substitution vars head sort _ args nodes e formed.0 formed.1)

  row-table : (substitution vars : List ℕ) (n : _) (row : Row_of-Scheme n) (nodes : List Node) → IsSubstitution nodes vars substitution
      → AreSchemes vars row → IsTable [] nodes → IsTable [] (interned_row nodes substitution row).0
  row-table substitution vars n end_of-Scheme nodes e formed table = table
  row-table substitution vars n (more_of-Scheme first rest) nodes e formed table =
      let one = interned nodes substitution first in
      row-table substitution vars _ rest one.0
      (IsSubstitution-grows nodes one.0 vars substitution (interned-grows substitution first nodes) e) formed.1
      (interned-table substitution vars first nodes e formed.0 table)

-- what a scheme adds are the absent nodes of its instance
pub adds_instance : (nodes : List Node) (vars substitution : List ℕ) (scheme : Scheme) → IsSubstitution nodes vars substitution
    → IsScheme vars scheme → AddsInstance nodes substitution scheme (interned nodes substitution scheme).0 (interned nodes substitution scheme).1
adds_instance nodes vars substitution scheme e formed = record {
  grows = interned-grows substitution scheme nodes;
  stands = stands substitution vars scheme nodes (as_many nodes vars substitution e) formed;
  only = only_instances substitution vars scheme nodes (as_many nodes vars substitution e) formed;
  table = interned-table substitution vars scheme nodes e formed;
}

-- and so it is where these are the nodes and the number
pub adds_when_made : (nodes after : List Node) (vars substitution : List ℕ) (scheme : Scheme) (id : ℕ) → IsSubstitution nodes vars substitution
    → IsScheme vars scheme → ◌≡◌ {A = List Node × ℕ} (after, id) (interned nodes substitution scheme) → AddsInstance nodes substitution scheme after id
adds_when_made nodes after vars substitution scheme id e formed made =
    subst (λ (d : List Node × ℕ). AddsInstance nodes substitution scheme d.0 d.1) (sym made) (adds_instance nodes vars substitution scheme e formed)

-- ---- the arguments of an instance's nodes
some_node : (one other : Node) → Some one ≡ Some other → one ≡ other
some_node one other e = same_Some one other e

-- the instances of a row are nodes of one of it
row_nodes : (substitution : List ℕ) (n : _) (row : Row_of-Scheme n) (nodes : List Node) (ids : List ℕ) → AreInstances nodes substitution row ids
    → All (IsNodeOfOne nodes substitution row) ids
row_nodes substitution n end_of-Scheme nodes ids h = subst (All (IsNodeOfOne nodes substitution end_of-Scheme)) (sym h) (All-nil (IsNodeOfOne nodes substitution end_of-Scheme))
row_nodes substitution n (more_of-Scheme first rest) nodes ids h =
    let P = IsNodeOfOne nodes substitution (more_of-Scheme first rest) in
    subst (All P) (sym h.2) (All-cons P h.0 h.1 (inl (own_node substitution first nodes h.0 h.3))
    (λ k d below. inr (row_nodes substitution _ rest nodes h.1 h.4 k d below)))
  where
    own_node : (substitution : List ℕ) (scheme : Scheme) (nodes : List Node) (id : ℕ) → IsInstance nodes substitution scheme id
        → IsInstanceNode nodes substitution scheme id
    own_node substitution (Var number) nodes id h = h
    own_node substitution (Apply' head sort shape args) nodes id h = inl h

among : (substitution : List ℕ) (number id : ℕ) → slice_get substitution number ≡ Some id → Contains substitution id
among substitution number id e = (number, slice_get_within substitution number id e, get_or_from_slice_get substitution number id id e)

mutual
  pub arguments-too : (substitution : List ℕ) (scheme : Scheme) (nodes : List Node) (id : ℕ) (node : Node) → IsInstanceNode nodes substitution scheme id
      → slice_get nodes id ≡ Some node → Contains substitution id ⊎ All (IsInstanceNode nodes substitution scheme) node.args
  arguments-too substitution (Var number) nodes id node h e = inl (among substitution number id h)
  arguments-too substitution (Apply' head sort shape args) nodes id node (inl h) e =
      let is : node_of head sort h.0 ≡ node = some_node (node_of head sort h.0) node (sym h.1 ∙ e) in
      let P = IsInstanceNode nodes substitution (Apply' head sort shape args) in
      inr (subst (λ (it : Node). All P it.args) is (λ k d below. inr (row_nodes substitution _ args nodes h.0 h.2 k d below)))
  arguments-too substitution (Apply' head sort shape args) nodes id node (inr h) e =
      elim (arguments-of_one substitution _ args nodes id node h e) [
        | inl given ↦ inl given
        | inr each ↦ inr (λ k d below. inr (each k d below))
      ]

  arguments-of_one : (substitution : List ℕ) (n : _) (row : Row_of-Scheme n) (nodes : List Node) (id : ℕ) (node : Node) → IsNodeOfOne nodes substitution row id
      → slice_get nodes id ≡ Some node → Contains substitution id ⊎ All (IsNodeOfOne nodes substitution row) node.args
  arguments-of_one substitution n end_of-Scheme nodes id node h e = absurd h
  arguments-of_one substitution n (more_of-Scheme first rest) nodes id node (inl h) e =
      elim (arguments-too substitution first nodes id node h e) [
        | inl given ↦ inl given
        | inr each ↦ inr (λ k d below. inl (each k d below))
      ]
  arguments-of_one substitution n (more_of-Scheme first rest) nodes id node (inr h) e =
      elim (arguments-of_one substitution _ rest nodes id node h e) [
        | inl given ↦ inl given
        | inr each ↦ inr (λ k d below. inr (each k d below))
      ]

-- ---- clauses
pub adds_when_ok : (nodes after : List Node) (vars substitution : List ℕ) (scheme : Scheme) (made : Result ℕ TermRefusal)
    → IsSubstitution nodes vars substitution → IsScheme vars scheme
    → IfOk made (λ id. ◌≡◌ {A = List Node × ℕ} (after, id) (interned nodes substitution scheme))
    → IfOk made (λ id. AddsInstance nodes substitution scheme after id)
adds_when_ok nodes after vars substitution scheme (Ok id) e formed h = adds_when_made nodes after vars substitution scheme id e formed h
adds_when_ok nodes after vars substitution scheme (Err refusal) e formed h = tt

pub only_for : (nodes : List Node) (vars substitution : List ℕ) (scheme : Scheme) → IsSubstitution nodes vars substitution
    → IsScheme vars scheme → AreInstanceNodesPast (length nodes) (interned nodes substitution scheme).0 substitution scheme
only_for nodes vars substitution scheme e formed =
    only_instances substitution vars scheme nodes (as_many nodes vars substitution e) formed
