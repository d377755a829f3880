-- What holds along a term table.
use Rattle.std.specs.Prelude.{◌≡◌, ℕ, suc, zero, ◌<◌, List, [], ◌∷◌, ◌++◌, Some, IsSome, All, Contains, length, take, map, slice_get, refl}
use Rattle.std.proofs.Common.{arith, sym, ap, ◌∙◌, get_or, append_assoc, inl, inr}
use Rattle.std.proofs.lemmas.List.{append-nil, length-append}
use Rattle.grind_term_graph.specs.declared.node.Node.{Node}
use Rattle.std.specs.Option.{option_map}
use Rattle.std.specs.List.{list_any, position_or_len}
use Rattle.std.proofs.lemmas.Bool.{false_from_ne_true, cases_Bool}
use Rattle.std.proofs.lemmas.List.{get_or-take, length-take-le}
use Rattle.std.proofs.lemmas.List.Sums.{position_or_len_is}
use Rattle.std.proofs.lemmas.Option.{get_or_from_slice_get, slice_get_within}
use Rattle.grind_term_graph.specs.Placed.{node_eq, placed}
use Rattle.grind_term_graph.specs.Terms.{sort_at}
use Rattle.grind_term_graph.specs.Shape.{WellShaped, IsTable, IsBegun, IsTermTable}
use Rattle.grind_term_graph.proofs.Nodes.{node_eq-same, node_eq-refl}
use Rattle.grind_term_graph.proofs.Placing.{pair, pair_of, place-is, list_any-decides, none-absent, placed-present, placed-absent, slice_get-index, slice_get-append, Contains-slice_get}

-- a longer list gives a number below the length the same sort
pub sort_at-append : (nodes more : List Node) (id : ℕ) → id < length nodes → sort_at (nodes ++ more) id ≡ sort_at nodes id
sort_at-append [] more id below = absurd (omega arith)
sort_at-append (first ∷ nodes) more zero below = refl
sort_at-append (first ∷ nodes) more (suc id) below = sort_at-append nodes more id (omega arith)

-- it gives arguments below the length the same sorts
pub sorts-append : (nodes more : List Node) (args : List ℕ) → All (λ arg. arg < length nodes) args
    → map (sort_at (nodes ++ more)) args ≡ map (sort_at nodes) args
sorts-append nodes more [] below = refl
sorts-append nodes more (arg ∷ args) below =
    let first = sort_at-append nodes more arg (below 0 0 (omega arith)) in
    let rest = sorts-append nodes more args (λ k d l. below (suc k) d (omega arith)) in
    cc

-- a node that fits after a list fits after a longer one
pub WellShaped-append : (before more : List Node) (node : Node) → WellShaped before node → WellShaped (before ++ more) node
WellShaped-append before more node shaped = (
  λ k d l. let b = shaped.0 k d l in omega (arith, length-append before more),
  rw (sorts-append before more node.args shaped.0) shaped.1,
)

-- a node that fits and is new makes a longer table
pub IsTable-push : (before nodes : List Node) (node : Node) → IsTable before nodes → WellShaped (before ++ nodes) node
    → ¬ Contains (before ++ nodes) node → IsTable before (nodes ++ node ∷ [])
IsTable-push before [] node table shaped new =
    (rw append-nil at shaped, λ has. new (rw append-nil has), tt)
IsTable-push before (first ∷ nodes) node table shaped new = (
  table.0,
  table.1,
  IsTable-push (before ++ first ∷ []) nodes node table.2 (rw append_assoc shaped) (rw append_assoc new),
)

-- each node of a table fits after those before it
pub WellShaped-at : (before nodes : List Node) (id : ℕ) (node : Node) → IsTable before nodes → slice_get nodes id ≡ Some node
    → WellShaped (before ++ take id nodes) node
WellShaped-at before [] id node table e = absurd cc
WellShaped-at before (first ∷ nodes) zero node table e =
    let is : first ≡ node = cc in rw (append-nil, ← is) table.0
WellShaped-at before (first ∷ nodes) (suc id) node table e =
    rw append_assoc at (WellShaped-at (before ++ first ∷ []) nodes id node table.2 e)

-- and does not stand there
pub absent-at : (before nodes : List Node) (id : ℕ) (node : Node) → IsTable before nodes → slice_get nodes id ≡ Some node
    → ¬ Contains (before ++ take id nodes) node
absent-at before [] id node table e = absurd cc
absent-at before (first ∷ nodes) zero node table e =
    let is : first ≡ node = cc in rw (append-nil, ← is) table.1
absent-at before (first ∷ nodes) (suc id) node table e =
    rw append_assoc at (absent-at (before ++ first ∷ []) nodes id node table.2 e)

-- in a table each node stands where a look-up finds it
pub position-at : (nodes : List Node) (id : ℕ) (node : Node) → IsTable [] nodes → slice_get nodes id ≡ Some node
    → position_or_len (node_eq node) nodes ≡ id
position-at nodes id node table e =
    let below = slice_get_within nodes id node e in
    let stored = get_or_from_slice_get nodes id node node e in
    let new = absent-at [] nodes id node table e in
    position_or_len_is (node_eq node) nodes id node (omega arith)
    (λ k l. false_from_ne_true (node_eq node (get_or nodes k node))
    (λ like. new (
      k,
      omega (arith, length-take-le id nodes (omega arith)),
      get_or-take id nodes k node l ∙ sym (node_eq-same node (get_or nodes k node) like),
    )))
    (λ _. rw stored (node_eq-refl node))

-- no node has two numbers
pub number_unique : (nodes : List Node) (i j : ℕ) (node : Node) → IsTable [] nodes → slice_get nodes i ≡ Some node
    → slice_get nodes j ≡ Some node → i ≡ j
number_unique nodes i j node table e f = sym (position-at nodes i node table e) ∙ position-at nodes j node table f

-- nor is a node of a table put anywhere but where it stands
pub placed-at : (nodes : List Node) (id : ℕ) (node : Node) → IsTable [] nodes → slice_get nodes id ≡ Some node
    → placed nodes node ≡ (nodes, id)
placed-at nodes id node table e =
    pair_of (placed nodes node).0 nodes (placed nodes node).1 id
    (placed-present nodes node (Contains-slice_get nodes node id e)) (sym (place-is nodes node) ∙ position-at nodes id node table e)

-- the number that is answered for a node of a table is the one that it has
pub number_at : (nodes after : List Node) (place id : ℕ) (node : Node) → IsTable [] nodes
    → pair after place ≡ placed nodes node → slice_get nodes id ≡ Some node → place ≡ id
number_at nodes after place id node table e f =
    let place_is : place ≡ (placed nodes node).1 = ap (λ (p : List Node × ℕ). p.1) e in
    place_is ∙ ap (λ (p : List Node × ℕ). p.1) (placed-at nodes id node table f)

-- a table stays a table when a node that fits is put in it, while there is room
pub IsTermTable-placed : (nodes : List Node) (limit : ℕ) (node : Node) → IsTermTable nodes limit → length nodes < limit
    → WellShaped nodes node → IsTermTable (placed nodes node).0 limit
IsTermTable-placed nodes limit node table room shaped =
    elim (cases_Bool (list_any (node_eq node) nodes)) [
      | inl e ↦ rw (placed-present nodes node ((list_any-decides nodes node).0 e)) table
      | inr e ↦
          let new = none-absent nodes node e in
          let begun : IsBegun (nodes ++ node ∷ []) =
          (table.1.0 ++ node ∷ [], ap (λ (ns : List Node). ns ++ node ∷ []) table.1.1) in
          rw (placed-absent nodes node new) (
            IsTable-push [] nodes node table.0 shaped new,
            begun,
            omega (arith, length-append nodes (node ∷ [])),
            table.3,
          )
    ]

-- a node that indexing a table gives fits after those before it
pub WellShaped-index : (nodes : List Node) (limit id : ℕ) (node : Node) → IsTermTable nodes limit → id < length nodes
    → node ≡ get_or nodes id node → WellShaped (take id nodes) node
WellShaped-index nodes limit id node table below is =
    WellShaped-at [] nodes id node table.0 (slice_get-index nodes id node below is)

-- and its arguments stand before it
pub args_before : (nodes : List Node) (limit id : ℕ) (node : Node) → IsTermTable nodes limit → id < length nodes
    → node ≡ get_or nodes id node → All (λ arg. arg < id) node.args
args_before nodes limit id node table below is =
    let shaped = WellShaped-index nodes limit id node table below is in
    λ k d l. let before = shaped.0 k d l in omega (arith, length-take-le id nodes (omega arith))

-- the sort of a node that stands there
pub sort_at-slice_get : (nodes : List Node) (id : ℕ) (node : Node) → slice_get nodes id ≡ Some node
    → sort_at nodes id ≡ Some node.sort
sort_at-slice_get nodes id node e = ap (option_map (λ (n : Node). n.sort)) e

-- a number has a sort exactly where it is below the length
pub sort_at-below : (nodes : List Node) (id : ℕ) → id < length nodes → IsSome (sort_at nodes id)
sort_at-below [] id below = absurd (omega arith)
sort_at-below (first ∷ nodes) zero below = refl
sort_at-below (first ∷ nodes) (suc id) below = sort_at-below nodes id (omega arith)

-- the first nodes of a table are a table
pub IsTable-front : (before nodes more : List Node) → IsTable before (nodes ++ more) → IsTable before nodes
IsTable-front before [] more table = tt
IsTable-front before (first ∷ nodes) more table =
    (table.0, table.1, IsTable-front (before ++ first ∷ []) nodes more table.2)

-- and the others follow them
pub IsTable-back : (before nodes more : List Node) → IsTable before (nodes ++ more) → IsTable (before ++ nodes) more
IsTable-back before [] more table = rw append-nil table
IsTable-back before (first ∷ nodes) more table =
    rw append_assoc at (IsTable-back (before ++ first ∷ []) nodes more table.2)

-- a node of a table has the same number in a longer table
pub placed-longer : (nodes more : List Node) (id : ℕ) (node : Node) → IsTable [] (nodes ++ more)
    → slice_get nodes id ≡ Some node → placed (nodes ++ more) node ≡ (nodes ++ more, id)
placed-longer nodes more id node table e =
    placed-at (nodes ++ more) id node table (slice_get-append nodes more id node e)
