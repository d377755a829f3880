-- Walks along schemes and nodes.
use Rattle.std.proofs.Common.{drop, ◌+◌, ◌≡◌, ◌↔◌, ℕ, ◌<◌, ◌≤◌, Bool, false, true≢false, List, [], ◌∷◌, Option, Some, None, length, slice_index_or, Vec, Global, refl, sym, ap, ◌∙◌, subst}
use Rattle.std.specs.Prelude.{IsTrue, map, slice_get}
use Rattle.std.specs.Option.{IsSomeAnd}
use Rattle.grind_term_graph.specs.declared.head.Head.{Head}
use Rattle.grind_term_graph.specs.declared.node.Node.{Node}
use Rattle.grind_term_graph.specs.Terms.{sort_at}
use Rattle.grind_schemes.specs.declared.scheme.Scheme.{Scheme, Apply, Row_of-Scheme, end_of-Scheme, more_of-Scheme, items-the_row-Scheme, items_hidden-the_row-Scheme-0}
use Rattle.grind_schemes.specs.Instances.{node_of, IsSubstitution, IsInstance, AreInstances}
use Rattle.grind_schemes.proofs.SchemeLemmas.{row_of}
use Rattle.grind_schemes.proofs.InstanceLemmas.{drop_at, drop_all}
use Rattle.grind_term_rules.specs.Instances.{AreInstancesOf}

-- where the first node has the first sort, the others have the other sorts exactly where all have all
pub substitution_goes_on : {W : Type 0} (nodes : List Node) (vars subst vars_tail subst_tail : List ℕ) (sort id : ℕ) →
    vars ≡ sort ∷ vars_tail → subst ≡ id ∷ subst_tail → sort_at nodes id ≡ Some sort →
    (IsSubstitution nodes vars subst ↔ W) → IsSubstitution nodes vars_tail subst_tail ↔ W
substitution_goes_on nodes vars ids vars_tail ids_tail sort id e f first all =
    let h = rw (e, f) at all in
    let P : List (Option ℕ) → Type 0 = λ sorts. sorts ≡ map Some (sort ∷ vars_tail) in (
      λ rest. h.0 (ap (λ (one : Option ℕ). one ∷ map (sort_at nodes) ids_tail) first ∙ ap (λ (sorts : List (Option ℕ)). Some sort ∷ sorts) rest),
      λ w. others (sort_at nodes id) (Some sort) (map (sort_at nodes) ids_tail) (map Some vars_tail) (h.1 w),
    )
  where
    others : (a b : Option ℕ) (xs ys : List (Option ℕ)) → a ∷ xs ≡ b ∷ ys → xs ≡ ys
    others a b xs ys same = cc

module _ (nodes : List Node) (ids_for : List ℕ) where
  -- the nodes of a row are those of its items
  from_row : (n : _) (row : Row_of-Scheme n) (ids : List ℕ) → AreInstances nodes ids_for row ids
      → AreInstancesOf nodes ids_for (items-the_row-Scheme n row) ids
  from_row n end_of-Scheme ids h = subst (AreInstancesOf nodes ids_for []) (sym h) tt
  from_row n (more_of-Scheme first rest) ids h =
      subst (AreInstancesOf nodes ids_for (first ∷ items-the_row-Scheme _ rest)) (sym h.2) (h.3, from_row _ rest h.1 h.4)

  to_row : (n : _) (row : Row_of-Scheme n) (ids : List ℕ) → AreInstancesOf nodes ids_for (items-the_row-Scheme n row) ids
      → AreInstances nodes ids_for row ids
  to_row n end_of-Scheme [] h = refl
  to_row n end_of-Scheme (id ∷ ids) h = absurd h
  to_row n (more_of-Scheme first rest) [] h = absurd h
  to_row n (more_of-Scheme first rest) (id ∷ ids) h = (id, ids, refl, h.0, to_row _ rest ids h.1)

  -- a node of that head and sort, with these arguments
  abbrev pub IsNodeOf : Head → ℕ → List ℕ → ℕ → Type 0
  IsNodeOf head sort ids id = IsSomeAnd (slice_get nodes id) (λ (it : Node). (it.head ≡ head) × (it.sort ≡ sort) × (it.args ≡ ids))

  node_is : (head : Head) (sort : ℕ) (ids : List ℕ) (o : Option Node)
      → IsSomeAnd o (λ (it : Node). (it.head ≡ head) × (it.sort ≡ sort) × (it.args ≡ ids)) → o ≡ Some (node_of head sort ids)
  node_is head sort ids (Some it) h = λ i. Some (record { head = h.0 i; sort = h.1 i; args = h.2 i })
  node_is head sort ids None h = absurd h

  -- a head at its arguments has that head, that sort and nodes of its arguments
  pub IsInstance-Apply : (head : Head) (sort : ℕ) (args : Vec Scheme Global) (id : ℕ) →
      IsInstance nodes ids_for (Apply head sort args) id ↔
      ((ids : List ℕ) × (slice_get nodes id ≡ Some (node_of head sort ids)) × AreInstancesOf nodes ids_for args.items ids)
  IsInstance-Apply head sort args id =
      let row = row_of (Apply head sort args) in
      let same = items_hidden-the_row-Scheme-0 args in (
        λ h. (h.0, h.1, subst (λ (items : List Scheme). AreInstancesOf nodes ids_for items h.0) same (from_row row.0 row.1 h.0 h.2)),
        λ h. (h.0, h.1, to_row row.0 row.1 h.0 (subst (λ (items : List Scheme). AreInstancesOf nodes ids_for items h.0) (sym same) h.2)),
      )

  -- a test of the arguments of a node of the right head and sort, read as one of the whole
  pub through_node : (b : Bool) (head : Head) (sort : ℕ) (args : Vec Scheme Global) (scheme : Scheme) (items : List Scheme)
      (ids : List ℕ) (id : ℕ) → scheme ≡ Apply head sort args → items ≡ args.items → IsNodeOf head sort ids id
      → (IsTrue b ↔ AreInstancesOf nodes ids_for items ids) → IsTrue b ↔ IsInstance nodes ids_for scheme id
  through_node b head sort args scheme items ids id e f there decides =
      let whole = IsInstance-Apply head sort args id in
      let is = node_is head sort ids (slice_get nodes id) there in
      let P : Scheme → Type 0 = λ s. IsInstance nodes ids_for s id in
      let Q : List Scheme → Type 0 = λ xs. AreInstancesOf nodes ids_for xs ids in (
        λ h. subst P (sym e) (whole.1 (ids, is, subst Q f (decides.0 h))),
        λ p. let given = whole.0 (subst P e p) in
            decides.1 (subst Q (sym f) (subst (AreInstancesOf nodes ids_for args.items)
            (args_same head sort given.0 ids (sym given.1 ∙ is)) given.2)),
      )
    where
      args_same : (head : Head) (sort : ℕ) (xs ys : List ℕ) → Some (node_of head sort xs) ≡ Some (node_of head sort ys) → xs ≡ ys
      args_same head sort xs ys same = ap (λ (o : Option Node). args_of o) same
        where
          args_of : Option Node → List ℕ
          args_of (Some it) = it.args
          args_of None = []

  -- no node of that head and sort
  pub through_none : (head : Head) (sort : ℕ) (args : Vec Scheme Global) (scheme : Scheme) (id : ℕ)
      → scheme ≡ Apply head sort args → ((ids : List ℕ) → ¬ IsNodeOf head sort ids id)
      → IsTrue false ↔ IsInstance nodes ids_for scheme id
  through_none head sort args scheme id e none = (
    λ h. absurd (true≢false (sym h)),
    λ p. let given = (IsInstance-Apply head sort args id).0 (subst (λ (s : Scheme). IsInstance nodes ids_for s id) e p) in
        absurd (none given.0 (is_node head sort given.0 (slice_get nodes id) given.1)),
  )
    where
      is_node : (head : Head) (sort : ℕ) (ids : List ℕ) (o : Option Node) → o ≡ Some (node_of head sort ids)
          → IsSomeAnd o (λ (it : Node). (it.head ≡ head) × (it.sort ≡ sort) × (it.args ≡ ids))
      is_node head sort ids o is =
          subst (λ (o : Option Node). IsSomeAnd o (λ (it : Node). (it.head ≡ head) × (it.sort ≡ sort) × (it.args ≡ ids))) (sym is)
          (refl, refl, refl)

  module _ (all : List Scheme) (W : Type 0) where
    -- what is left of schemes and nodes says the same as all
    abbrev pub IsLeftOf : ℕ → List ℕ → Type 0
    IsLeftOf k rest = W ↔ AreInstancesOf nodes ids_for (drop k all) rest

    -- a node is its scheme
    pub each_goes_on : (k : ℕ) (item : Scheme) (id : ℕ) (rest tail : List ℕ) → k < length all → item ≡ slice_index_or all k item
        → rest ≡ id ∷ tail → IsInstance nodes ids_for item id → IsLeftOf k rest → IsLeftOf (k + 1) tail
    each_goes_on k item id rest tail below is e here left =
        let h = rw (drop_at all k item below is, e) at left in (λ w. (h.0 w).1, λ others. h.1 (here, others))

    -- a node is not its scheme
    pub each_fails : (k : ℕ) (item : Scheme) (id : ℕ) (rest tail : List ℕ) → k < length all → item ≡ slice_index_or all k item
        → rest ≡ id ∷ tail → ¬ IsInstance nodes ids_for item id → IsLeftOf k rest → IsTrue false ↔ W
    each_fails k item id rest tail below is e not_here left =
        let h = rw (drop_at all k item below is, e) at left in (λ f. absurd (true≢false (sym f)), λ w. absurd (not_here (h.0 w).0))

    -- there are fewer nodes
    pub each_lacks : (k : ℕ) (item : Scheme) (rest : List ℕ) → k < length all → item ≡ slice_index_or all k item
        → rest ≡ [] → IsLeftOf k rest → IsTrue false ↔ W
    each_lacks k item rest below is e left =
        let h = rw (drop_at all k item below is, e) at left in (λ f. absurd (true≢false (sym f)), λ w. absurd (h.0 w))

    -- after the last scheme no node is left
    pub each_ends : (b : Bool) (k : ℕ) (rest : List ℕ) → length all ≤ k → (IsTrue b ↔ (rest ≡ [])) → IsLeftOf k rest → IsTrue b ↔ W
    each_ends b k rest past none left =
        let h = rw (drop_all all k past) at left in (
          λ t. h.1 (subst (AreInstancesOf nodes ids_for []) (sym (none.0 t)) tt),
          λ w. none.1 (no_more rest (h.0 w)),
        )
      where
        no_more : (rest : List ℕ) → AreInstancesOf nodes ids_for [] rest → rest ≡ []
        no_more [] h = refl
        no_more (id ∷ ids) h = absurd h
