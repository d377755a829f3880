-- Where a node stands among the nodes of a table and fresh ones after them.
use Rattle.std.proofs.Common.{◌+◌, ◌≡◌, ℕ, suc, ◌<◌, ◌≤◌, arith, Bool, true, false, true≢false, inl, inr, List, [], ◌∷◌, ◌++◌, Some, length, refl, sym, ap, ◌∙◌, append_assoc}
use Rattle.std.specs.Prelude.{slice_get, Contains}
use Rattle.std.specs.List.{list_any, position_or_len}
use Rattle.std.proofs.lemmas.Bool.{cases_Bool, false_from_ne_true}
use Rattle.std.proofs.lemmas.List.Folds.{list_any-append}
use Rattle.grind_term_graph.specs.declared.node.Node.{Node}
use Rattle.grind_term_graph.specs.Same.{is_same_node}
use Rattle.grind_term_graph.specs.Placed.{placed}
use Rattle.grind_term_graph.proofs.Placing.{same_node-found, Contains-slice_get}
use Rattle.grind_schemes.proofs.InstanceLemmas.{nodes_with}

module _ {X : Type 0} (p : X → Bool) where
  -- what stands in the front of a list is found there
  pub place_in_front : (xs ys : List X) → list_any p xs ≡ true → position_or_len p (xs ++ ys) ≡ position_or_len p xs
  place_in_front [] ys found = absurd (true≢false (sym found))
  place_in_front (x ∷ xs) ys found =
      elim (cases_Bool (p x)) [
        | inl e ↦ rw e refl
        | inr e ↦ let rest : list_any p xs ≡ true = rw e at found in rw e (ap (λ (n : ℕ). 1 + n) (place_in_front xs ys rest))
      ]

  -- what does not stand there is found after it
  pub place_behind : (xs ys : List X) → list_any p xs ≡ false
      → position_or_len p (xs ++ ys) ≡ length xs + position_or_len p ys
  place_behind [] ys none = omega arith
  place_behind (x ∷ xs) ys none =
      elim (cases_Bool (p x)) [
        | inl e ↦ absurd (true≢false (rw e at none))
        | inr e ↦ let rest : list_any p xs ≡ false = rw e at none in
            rw e (let deeper = place_behind xs ys rest in omega (arith, deeper))
      ]

  -- a place below the length holds what is looked for
  pub found_below : (xs : List X) → position_or_len p xs < length xs → list_any p xs ≡ true
  found_below [] below = absurd (omega arith)
  found_below (x ∷ xs) below =
      elim (cases_Bool (p x)) [
        | inl e ↦ rw e refl
        | inr e ↦ let less : 1 + position_or_len p xs < suc (length xs) = rw e at below in
            rw e (found_below xs (omega arith))
      ]

  pub none_past : (xs : List X) → length xs ≤ position_or_len p xs → list_any p xs ≡ false
  none_past [] past = refl
  none_past (x ∷ xs) past =
      elim (cases_Bool (p x)) [
        | inl e ↦ let less : suc (length xs) ≤ 0 = rw e at past in absurd (omega arith)
        | inr e ↦ let less : suc (length xs) ≤ 1 + position_or_len p xs = rw e at past in
            rw e (none_past xs (omega arith))
      ]

pair_of : (xs ys : List Node) (i j : ℕ) → xs ≡ ys → i ≡ j → nodes_with xs i ≡ nodes_with ys j
pair_of xs ys i j e f = cc

not_any : (nodes : List Node) (node : Node) → ¬ Contains nodes node → list_any (is_same_node node) nodes ≡ false
not_any nodes node new = false_from_ne_true (list_any (is_same_node node) nodes) (λ e. new ((same_node-found nodes node).0 e))

-- a node of a list stays where it is before others
pub placed_in_front : (nodes fresh : List Node) (node : Node) (id : ℕ) → nodes_with nodes id ≡ placed nodes node
    → slice_get nodes id ≡ Some node → nodes_with (nodes ++ fresh) id ≡ placed (nodes ++ fresh) node
placed_in_front nodes fresh node id is stands =
    let p = is_same_node node in
    let here : list_any p nodes ≡ true = (same_node-found nodes node).1 (Contains-slice_get nodes node id stands) in
    let found : list_any p (nodes ++ fresh) ≡ true = list_any-append p nodes fresh ∙ rw here refl in
    let id_is : id ≡ position_or_len p nodes = ap (λ (d : List Node × ℕ). d.1) is in
    pair_of (nodes ++ fresh) (placed (nodes ++ fresh) node).0 id (placed (nodes ++ fresh) node).1
    (rw found refl) (id_is ∙ sym (place_in_front p nodes fresh here))

-- another that stands among those after has its place there
pub placed_behind : (nodes fresh : List Node) (node : Node) (number : ℕ) → ¬ Contains nodes node
    → position_or_len (is_same_node node) fresh < length fresh
    → number ≡ length nodes + position_or_len (is_same_node node) fresh
    → nodes_with (nodes ++ fresh) number ≡ placed (nodes ++ fresh) node
placed_behind nodes fresh node number new below is =
    let p = is_same_node node in
    let none = not_any nodes node new in
    let found : list_any p (nodes ++ fresh) ≡ true =
    list_any-append p nodes fresh ∙ rw (none, found_below p fresh below) refl in
    pair_of (nodes ++ fresh) (placed (nodes ++ fresh) node).0 number (placed (nodes ++ fresh) node).1
    (rw found refl) (is ∙ sym (place_behind p nodes fresh none))

-- and one that stands nowhere goes last
pub placed_last : (nodes fresh : List Node) (node : Node) (number : ℕ) → ¬ Contains nodes node
    → length fresh ≤ position_or_len (is_same_node node) fresh
    → number ≡ length nodes + position_or_len (is_same_node node) fresh
    → nodes_with (nodes ++ (fresh ++ node ∷ [])) number ≡ placed (nodes ++ fresh) node
placed_last nodes fresh node number new past is =
    let p = is_same_node node in
    let none = not_any nodes node new in
    let nowhere : list_any p (nodes ++ fresh) ≡ false =
    list_any-append p nodes fresh ∙ rw (none, none_past p fresh past) refl in
    pair_of (nodes ++ (fresh ++ node ∷ [])) (placed (nodes ++ fresh) node).0 number (placed (nodes ++ fresh) node).1
    (rw nowhere (sym (append_assoc nodes fresh (node ∷ [])))) (is ∙ sym (place_behind p nodes fresh none))
