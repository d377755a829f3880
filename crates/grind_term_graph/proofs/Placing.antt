-- Where a node stands in a list of nodes, and where it is put.
use Rattle.std.specs.Prelude.{◌≡◌, ℕ, zero, suc, ◌+◌, ◌<◌, ◌≤◌, true, false, List, [], ◌∷◌, ◌++◌, Option, Some, None, IfSome, IsSome, is_some, ◌↔◌, Contains, length, slice_get, refl}
use Rattle.std.specs.Bool.{Decides}
use Rattle.std.specs.List.{list_any, position_or_len, position}
use Rattle.std.proofs.Common.{arith, sym, ap, ◌∙◌, subst, get_or, true≢false, inl, inr, Bool, nat_lt, cond}
use Rattle.std.proofs.lemmas.Bool.{false_from_ne_true, cases_Bool}
use Rattle.std.proofs.lemmas.List.Folds.{list_any_at}
use Rattle.std.proofs.lemmas.List.{append-nil, length-append}
use Rattle.std.proofs.lemmas.List.Sums.{passes_at_first, fails_before_first, position_or_len_is}
use Rattle.std.proofs.lemmas.List.Quantifiers.{position-Some}
use Rattle.std.proofs.lemmas.Map.Made.{is_member-Decides}
use Rattle.std.proofs.lemmas.Option.{same_Some, slice_get-get_or, get_or_from_slice_get, slice_get_within}
use Rattle.grind_term_graph.specs.declared.node.Node.{Node}
use Rattle.grind_term_graph.specs.Beginnings.{BeginsWith}
use Rattle.grind_term_graph.specs.Same.{is_same_node}
use Rattle.grind_term_graph.specs.Placed.{node_eq, placed_by, placed, IsStored}
use Rattle.grind_term_graph.proofs.Nodes.{node_eq-same, node_eq-refl, node_eq-decides, node_eq-is_same, same_node-decides}

-- a look-up finds a node exactly where the list has it
pub list_any-decides : (nodes : List Node) (node : Node) → Decides (list_any (node_eq node) nodes) (Contains nodes node)
list_any-decides nodes node = is_member-Decides node_eq-decides nodes node

below_unless : (a b : ℕ) → (b ≤ a → ⊥) → a < b
below_unless a b h = omega arith

-- a node that the list has stands below its length
pub position-below : (nodes : List Node) (node : Node) → Contains nodes node → position_or_len (node_eq node) nodes < length nodes
position-below nodes node has =
    below_unless (position_or_len (node_eq node) nodes) (length nodes)
    (λ past.
    let k : has.0 < position_or_len (node_eq node) nodes = omega arith in
    let unlike = fails_before_first (node_eq node) nodes has.0 node k in
    let like : node_eq node (get_or nodes has.0 node) ≡ true = rw has.2 (node_eq-refl node) in
    true≢false (sym like ∙ unlike))

-- where the first equal node stands below the length, it is that node
pub slice_get-position : (nodes : List Node) (node : Node) → position_or_len (node_eq node) nodes < length nodes
    → slice_get nodes (position_or_len (node_eq node) nodes) ≡ Some node
slice_get-position nodes node below =
    let passes = passes_at_first (node_eq node) nodes node below in
    let is = node_eq-same node (get_or nodes (position_or_len (node_eq node) nodes) node) passes in
    slice_get-get_or nodes (position_or_len (node_eq node) nodes) node below ∙ ap Some (sym is)

-- the position that a look-up answers holds the node
pub slice_get-found : (nodes : List Node) (node : Node) (id : ℕ) → position (node_eq node) nodes ≡ Some id
    → slice_get nodes id ≡ Some node
slice_get-found nodes node id e =
    let found = position-Some (node_eq node) nodes id node e in
    let is = node_eq-same node (get_or nodes id node) found.1 in
    slice_get-get_or nodes id node found.0 ∙ ap Some (sym is)

-- a node that stands somewhere is in the list
pub Contains-slice_get : (nodes : List Node) (node : Node) (id : ℕ) → slice_get nodes id ≡ Some node → Contains nodes node
Contains-slice_get nodes node id e =
    (id, slice_get_within nodes id node e, get_or_from_slice_get nodes id node node e)

slice_get-last : (nodes : List Node) (node : Node) → slice_get (nodes ++ node ∷ []) (length nodes) ≡ Some node
slice_get-last [] node = refl
slice_get-last (first ∷ nodes) node = slice_get-last nodes node

-- a node of a list stands at the same position in a longer one
pub slice_get-append : (nodes more : List Node) (id : ℕ) (node : Node) → slice_get nodes id ≡ Some node
    → slice_get (nodes ++ more) id ≡ Some node
slice_get-append [] more id node e = absurd cc
slice_get-append (first ∷ nodes) more zero node e = e
slice_get-append (first ∷ nodes) more (suc id) node e = slice_get-append nodes more id node e

-- where the code puts a node is where it goes
pub placed-is : (nodes : List Node) (node : Node) → placed_by (node_eq node) nodes node ≡ placed nodes node
placed-is nodes node = λ i. placed_by (λ other. node_eq-is_same node other i) nodes node

-- its position is that of the first equal node
pub place-is : (nodes : List Node) (node : Node) → position_or_len (node_eq node) nodes ≡ (placed nodes node).1
place-is nodes node = ap (λ (d : List Node × ℕ). d.1) (placed-is nodes node)

-- a node that the list has is put nowhere else
pub placed-present : (nodes : List Node) (node : Node) → Contains nodes node → (placed nodes node).0 ≡ nodes
placed-present nodes node has =
    let found : list_any (node_eq node) nodes ≡ true = (list_any-decides nodes node).1 has in
    let there : (placed_by (node_eq node) nodes node).0 ≡ nodes = rw found refl in
    sym (ap (λ (d : List Node × ℕ). d.0) (placed-is nodes node)) ∙ there

-- a new node is put last
pub placed-absent : (nodes : List Node) (node : Node) → ¬ Contains nodes node → (placed nodes node).0 ≡ nodes ++ node ∷ []
placed-absent nodes node new =
    let found = false_from_ne_true (list_any (node_eq node) nodes) (λ e. new ((list_any-decides nodes node).0 e)) in
    let there : (placed_by (node_eq node) nodes node).0 ≡ nodes ++ node ∷ [] = rw found refl in
    sym (ap (λ (d : List Node × ℕ). d.0) (placed-is nodes node)) ∙ there

-- an item that indexing gives stands at the index
pub slice_get-index : (nodes : List Node) (id : ℕ) (node : Node) → id < length nodes → node ≡ get_or nodes id node
    → slice_get nodes id ≡ Some node
slice_get-index nodes id node below is = slice_get-get_or nodes id node below ∙ ap Some (sym is)

-- what a look-up does not find it answers the length for
pub position-absent : (nodes : List Node) (node : Node) → list_any (node_eq node) nodes ≡ false
    → position_or_len (node_eq node) nodes ≡ length nodes
position-absent nodes node none =
    position_or_len_is (node_eq node) nodes (length nodes) node (omega arith)
    (λ k l. false_from_ne_true (node_eq node (get_or nodes k node))
    (λ like. true≢false (sym (list_any_at (node_eq node) nodes k node l like) ∙ none)))
    (λ l. absurd (omega arith))

-- once it is put there a node stands at the position that is answered
pub slice_get-placed : (nodes : List Node) (node : Node)
    → slice_get (placed nodes node).0 (placed nodes node).1 ≡ Some node
slice_get-placed nodes node =
    subst (λ (d : List Node × ℕ). slice_get d.0 d.1 ≡ Some node) (placed-is nodes node)
    (elim (cases_Bool (list_any (node_eq node) nodes)) [
      | inl e ↦ rw e (slice_get-position nodes node (position-below nodes node ((list_any-decides nodes node).0 e)))
      | inr e ↦ rw (e, position-absent nodes node e) (slice_get-last nodes node)
    ])

-- a node that is put there leaves the others where they are
pub placed-grows : (nodes : List Node) (node : Node) → BeginsWith nodes (placed nodes node).0
placed-grows nodes node =
    subst (λ (d : List Node × ℕ). BeginsWith nodes d.0) (placed-is nodes node)
    (elim (cases_Bool (list_any (node_eq node) nodes)) [
      | inl e ↦ ([], rw (e, append-nil))
      | inr e ↦ (node ∷ [], rw e refl)
    ])

-- what a look-up does not find the list does not have
pub none-absent : (nodes : List Node) (node : Node) → list_any (node_eq node) nodes ≡ false → ¬ Contains nodes node
none-absent nodes node none = λ has. true≢false (sym ((list_any-decides nodes node).1 has) ∙ none)

-- what a look-up answers
pub IfSome-found : (nodes : List Node) (node : Node) (found : Option ℕ) → found ≡ position (node_eq node) nodes
    → IfSome found (λ place. slice_get nodes place ≡ Some node)
IfSome-found nodes node None e = tt
IfSome-found nodes node (Some place) e = slice_get-found nodes node place (sym e)

pub IsSome-found : (nodes : List Node) (node : Node) (found : Option ℕ) → is_some found ≡ list_any (node_eq node) nodes
    → IsSome found ↔ Contains nodes node
IsSome-found nodes node found e = (
  λ some. (list_any-decides nodes node).0 (sym e ∙ some),
  λ has. e ∙ (list_any-decides nodes node).1 has,
)

abbrev pub pair : List Node → ℕ → List Node × ℕ
pair nodes place = (nodes, place)

pub pair_of : (xs ys : List Node) (i j : ℕ) → xs ≡ ys → i ≡ j → pair xs i ≡ pair ys j
pair_of xs ys i j p q = cc

picked : (below : Bool) (place id : ℕ) → cond below (Some place) None ≡ Some id → place ≡ id
picked true place id e = same_Some place id e
picked false place id e = absurd cc

-- what a look-up finds is where the node goes
pub IfSome-placed : (nodes : List Node) (node : Node) (found : Option ℕ) → found ≡ position (node_eq node) nodes
    → IfSome found (λ place. pair nodes place ≡ placed nodes node)
IfSome-placed nodes node None e = tt
IfSome-placed nodes node (Some id) e =
    let known = placed-present nodes node (Contains-slice_get nodes node id (slice_get-found nodes node id (sym e))) in
    let here = picked (nat_lt (position_or_len (node_eq node) nodes) (length nodes)) (position_or_len (node_eq node) nodes) id (sym e) in
    pair_of nodes (placed nodes node).0 id (placed nodes node).1 (sym known) (sym here ∙ place-is nodes node)

-- ---- where a node is put, in words of the list
slice_get-front : (nodes more : List Node) (id : ℕ) → id < length nodes → slice_get (nodes ++ more) id ≡ slice_get nodes id
slice_get-front [] more id below = absurd (omega arith)
slice_get-front (first ∷ nodes) more zero below = refl
slice_get-front (first ∷ nodes) more (suc id) below = slice_get-front nodes more id (omega arith)

-- before its position no node is the same
before_position : (nodes : List Node) (node : Node) (k : ℕ) → k < position_or_len (node_eq node) nodes
    → slice_get nodes k ≡ Some node → ⊥
before_position nodes node k below stands =
    let unlike = fails_before_first (node_eq node) nodes k node below in
    let is = get_or_from_slice_get nodes k node node stands in
    let like : node_eq node (get_or nodes k node) ≡ true = rw is (node_eq-refl node) in
    true≢false (sym like ∙ unlike)

first-known : (nodes : List Node) (node : Node) → Contains nodes node → (k : ℕ) → slice_get (placed nodes node).0 k ≡ Some node
    → (placed nodes node).1 ≤ k
first-known nodes node has k stands =
    let there : slice_get nodes k ≡ Some node =
    subst (λ (ns : List Node). slice_get ns k ≡ Some node) (placed-present nodes node has) stands in
    let no_less = before_position nodes node k in
    not_below k (placed nodes node).1 (λ below. no_less (rw (place-is nodes node) below) there)
  where
    not_below : (k n : ℕ) → (k < n → ⊥) → n ≤ k
    not_below k n h = omega arith

first-fresh : (nodes : List Node) (node : Node) → ¬ Contains nodes node → (k : ℕ) → slice_get (placed nodes node).0 k ≡ Some node
    → (placed nodes node).1 ≤ k
first-fresh nodes node new k stands =
    let none = false_from_ne_true (list_any (node_eq node) nodes) (λ e. new ((list_any-decides nodes node).0 e)) in
    let last : (placed nodes node).1 ≡ length nodes = sym (place-is nodes node) ∙ position-absent nodes node none in
    let there : slice_get (nodes ++ node ∷ []) k ≡ Some node =
    subst (λ (ns : List Node). slice_get ns k ≡ Some node) (placed-absent nodes node new) stands in
    not_below k (length nodes) (placed nodes node).1 last
    (λ below. new (Contains-slice_get nodes node k (sym (slice_get-front nodes (node ∷ []) k below) ∙ there)))
  where
    not_below : (k n m : ℕ) → m ≡ n → (k < n → ⊥) → m ≤ k
    not_below k n m e h = omega arith

pub placed-once : (nodes : List Node) (node : Node) → IsStored nodes node (placed nodes node).0 (placed nodes node).1
placed-once nodes node = record {
  stands = slice_get-placed nodes node;
  first = λ k stands.
      elim (cases_Bool (list_any (node_eq node) nodes)) [
        | inl e ↦ first-known nodes node ((list_any-decides nodes node).0 e) k stands
        | inr e ↦ first-fresh nodes node (λ has. true≢false (sym ((list_any-decides nodes node).1 has) ∙ e)) k stands
      ];
  known = placed-present nodes node;
  fresh = placed-absent nodes node;
}

-- a list has a node exactly where one of it is the same
pub same_node-found : (nodes : List Node) (node : Node) → Decides (list_any (is_same_node node) nodes) (Contains nodes node)
same_node-found nodes node = is_member-Decides same_node-decides nodes node

-- a node that was not there before is the one that was put there
pub placed-last : (nodes : List Node) (node : Node) (id : ℕ) → length nodes ≤ id → id < length (placed nodes node).0
    → slice_get (placed nodes node).0 id ≡ Some node
placed-last nodes node id past below =
    elim (cases_Bool (list_any (node_eq node) nodes)) [
      | inl e ↦
          let stays = placed-present nodes node ((list_any-decides nodes node).0 e) in
          absurd (no_more (length nodes) (length (placed nodes node).0) id (ap length stays) past below)
      | inr e ↦
          let longer = placed-absent nodes node (λ has. true≢false (sym ((list_any-decides nodes node).1 has) ∙ e)) in
          let is : id ≡ length nodes =
          only_one (length nodes) (length (placed nodes node).0) id (ap length longer ∙ length-append nodes (node ∷ [])) past below in
          subst (λ (ns : List Node). slice_get ns id ≡ Some node) (sym longer)
          (subst (λ (k : ℕ). slice_get (nodes ++ node ∷ []) k ≡ Some node) (sym is) (slice_get-last nodes node))
    ]
  where
    no_more : (n m id : ℕ) → m ≡ n → n ≤ id → id < m → ⊥
    no_more n m id e p q = omega arith

    only_one : (n m id : ℕ) → m ≡ n + 1 → n ≤ id → id < m → id ≡ n
    only_one n m id e p q = omega arith
