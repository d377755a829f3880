-- Sums of forms, node by node.
use Rattle.std.proofs.Common.{◌≡◌, ◌≢◌, ◌⊎◌, inl, inr, ℕ, zero, suc, ◌<◌, eqb, List, [], ◌∷◌, ℤ, pos, negsuc, ◌+ℤ◌, Option, Some, None, arith, sym, ap, ◌∙◌, refl, subst}
use Rattle.std.specs.Option.{option_and_then}
use Rattle.std.proofs.lemmas.Bool.{cases_eq, cases_order, cond-true, cond-false, eq-eqb, ne_eqb}
use Rattle.std.proofs.lemmas.Option.{none-some, same_Some}
use lib.IntN.{*ℤ-zero, +ℤ_idl, +ℤ_idr}
use Rattle.grind_linear_forms.specs.declared.form.Part.{Part}
use Rattle.grind_linear_forms.specs.Forms.{FormData, form_data, part_of, RisesFrom, IsForm, fit}
use Rattle.grind_linear_forms.specs.Sums.{multiple, combination, in_front, front, multiplied, merged, scaled_sum, both}
use Rattle.grind_linear_forms.specs.Coefficients.{coefficient_at}
use Rattle.grind_linear_forms.proofs.Fits.{multiple_is}
use Rattle.grind_linear_forms.proofs.Merging.{multiplied-nil, multiplied-cons, merged-nil, merged-left, merged-less, merged-more, merged-same, both-some}
use Rattle.grind_linear_forms.proofs.Rising.{rises-multiplied, rises-merged}
use Rattle.grind_linear_forms.proofs.SumValues.{front-some}

-- ---- one node
at-here : (n : ℕ) (x : Part) (xs : List Part) → x.node ≡ n → coefficient_at n (x ∷ xs) ≡ x.coefficient
at-here n x xs e = cond-true (eqb x.node n) x.coefficient (coefficient_at n xs) (eq-eqb x.node n e)

at-other : (n : ℕ) (x : Part) (xs : List Part) → (x.node ≡ n → ⊥) → coefficient_at n (x ∷ xs) ≡ coefficient_at n xs
at-other n x xs other = cond-false (eqb x.node n) x.coefficient (coefficient_at n xs) (ne_eqb x.node n other)

-- below the first node there is no coefficient
at-below : (n low : ℕ) (parts : List Part) → RisesFrom low parts → n < low → coefficient_at n parts ≡ pos 0
at-below n low [] rises h = refl
at-below n low (x ∷ xs) rises h =
    let least = rises.0 in
    at-other n x xs (λ e. omega arith) ∙ at-below n (suc x.node) xs rises.2 (omega arith)

front-here : (n node : ℕ) (c : ℤ) (rest : List Part) → RisesFrom (suc node) rest → node ≡ n → coefficient_at n (in_front node c rest) ≡ c
front-here n node (pos zero) rest rises e = at-below n (suc node) rest rises (omega arith)
front-here n node (pos (suc k)) rest rises e = at-here n (part_of node (pos (suc k))) rest e
front-here n node (negsuc k) rest rises e = at-here n (part_of node (negsuc k)) rest e

front-other : (n node : ℕ) (c : ℤ) (rest : List Part) → (node ≡ n → ⊥) → coefficient_at n (in_front node c rest) ≡ coefficient_at n rest
front-other n node (pos zero) rest other = refl
front-other n node (pos (suc k)) rest other = at-other n (part_of node (pos (suc k))) rest other
front-other n node (negsuc k) rest other = at-other n (part_of node (negsuc k)) rest other

front-none : (node : ℕ) (c : Option ℤ) (rest : Option (List Part)) → front node c rest ≡ None → (c ≡ None) ⊎ (rest ≡ None)
front-none node None rest e = inl refl
front-none node (Some c) None e = inr refl
front-none node (Some c) (Some parts) e = absurd (none-some (in_front node c parts) (sym e))

-- ---- combinations with 0
multiple-zero : (m : ℤ) → multiple m (pos 0) ≡ Some (pos 0)
unfolding multiple fit
multiple-zero m = rw (*ℤ-zero m) refl

combination-left_alone : (m x k : ℤ) → combination m x k (pos 0) ≡ multiple m x
unfolding combination fit multiple
combination-left_alone m x k = rw (multiple-zero k) (at_product (multiple m x) refl)
  where
    at_product : (product : Option ℤ) → multiple m x ≡ product → option_and_then (λ p. fit (p +ℤ pos 0)) product ≡ product
    at_product None e = refl
    at_product (Some p) e = ap fit (+ℤ_idr p ∙ multiple_is m x p e) ∙ e

combination-right_alone : (m k y : ℤ) → combination m (pos 0) k y ≡ multiple k y
unfolding combination fit multiple
combination-right_alone m k y = rw (multiple-zero m) (at_product (multiple k y) refl)
  where
    at_product : (product : Option ℤ) → multiple k y ≡ product → option_and_then (λ q. fit (pos 0 +ℤ q)) product ≡ product
    at_product None e = refl
    at_product (Some q) e = ap fit (+ℤ_idl q ∙ multiple_is k y q e) ∙ e

-- ---- multiples
multiplied-at : (m : ℤ) (parts all : List Part) (low n : ℕ) → RisesFrom low parts → multiplied m parts ≡ Some all
    → multiple m (coefficient_at n parts) ≡ Some (coefficient_at n all)
multiplied-at m [] all low n rises e =
    multiple-zero m ∙ ap (λ (parts : List Part). Some (coefficient_at n parts)) (same_Some _ _ (sym (multiplied-nil m) ∙ e))
multiplied-at m (x ∷ xs) all low n rises e =
    let w = front-some x.node (multiple m x.coefficient) (multiplied m xs) all (sym (multiplied-cons m x xs) ∙ e) in
    let above = rises-multiplied m xs (suc x.node) w.1 rises.2 w.3 in
    elim (cases_eq x.node n) [
      | inl same ↦ ap (multiple m) (at-here n x xs same) ∙ w.2
          ∙ ap (λ (c : ℤ). Some c) (sym (front-here n x.node w.0 w.1 above same) ∙ ap (coefficient_at n) w.4)
      | inr other ↦ ap (multiple m) (at-other n x xs other) ∙ multiplied-at m xs w.1 (suc x.node) n rises.2 w.3
          ∙ ap (λ (c : ℤ). Some c) (sym (front-other n x.node w.0 w.1 other) ∙ ap (coefficient_at n) w.4)
    ]

multiplied-refused : (m : ℤ) (parts : List Part) (low : ℕ) → RisesFrom low parts → multiplied m parts ≡ None
    → (n : ℕ) × (multiple m (coefficient_at n parts) ≡ None)
multiplied-refused m [] low rises e = absurd (none-some [] (sym e ∙ multiplied-nil m))
multiplied-refused m (x ∷ xs) low rises e = elim (front-none x.node (multiple m x.coefficient) (multiplied m xs) (sym (multiplied-cons m x xs) ∙ e)) [
  | inl here ↦ (x.node, ap (multiple m) (at-here x.node x xs refl) ∙ here)
  | inr later ↦ later_one (multiplied-refused m xs (suc x.node) rises.2 later)
]
  where
    later_one : ((n : ℕ) × (multiple m (coefficient_at n xs) ≡ None)) → (n : ℕ) × (multiple m (coefficient_at n (x ∷ xs)) ≡ None)
    later_one w = (
      w.0,
      ap (multiple m)
          (at-other w.0 x xs (λ same. none-some (pos 0)
          (sym w.1 ∙ ap (multiple m) (at-below w.0 (suc x.node) xs rises.2 (omega arith)) ∙ multiple-zero m))) ∙ w.1,
    )

-- ---- sums of multiples
module _ (m k : ℤ) where
  -- the combination of the coefficients at a node
  abbrev at_node : ℕ → List Part → List Part → Option ℤ
  at_node n xs ys = combination m (coefficient_at n xs) k (coefficient_at n ys)

  -- only the left list has the node, only the right one, both, or neither
  left_here : (n : ℕ) (x : Part) (xs ys : List Part) → x.node ≡ n → RisesFrom (suc x.node) ys → at_node n (x ∷ xs) ys ≡ multiple m x.coefficient
  left_here n x xs ys same rises =
      (λ i. combination m (at-here n x xs same i) k (at-below n (suc x.node) ys rises (omega arith) i))
      ∙ combination-left_alone m x.coefficient k

  right_here : (n : ℕ) (y : Part) (xs ys : List Part) → y.node ≡ n → RisesFrom (suc y.node) xs → at_node n xs (y ∷ ys) ≡ multiple k y.coefficient
  right_here n y xs ys same rises =
      (λ i. combination m (at-below n (suc y.node) xs rises (omega arith) i) k (at-here n y ys same i))
      ∙ combination-right_alone m k y.coefficient

  both_here : (n : ℕ) (x y : Part) (xs ys : List Part) → x.node ≡ n → y.node ≡ n
      → at_node n (x ∷ xs) (y ∷ ys) ≡ combination m x.coefficient k y.coefficient
  both_here n x y xs ys same also = λ i. combination m (at-here n x xs same i) k (at-here n y ys also i)

  nobody : (n low high : ℕ) (xs ys : List Part) → RisesFrom low xs → RisesFrom high ys → n < low → n < high → at_node n xs ys ≡ Some (pos 0)
  nobody n low high xs ys left right h i =
      (λ j. combination m (at-below n low xs left h j) k (at-below n high ys right i j))
      ∙ combination-left_alone m (pos 0) k ∙ multiple-zero m

  -- what is made of one node and the rest of both lists
  made : (n node : ℕ) (c : Option ℤ) (rest : Option (List Part)) (all xs ys : List Part) (whole : Option ℤ) → front node c rest ≡ Some all
      → (node ≡ n → whole ≡ c) → ((node ≡ n → ⊥) → whole ≡ at_node n xs ys)
      → ((parts : List Part) → rest ≡ Some parts → (at_node n xs ys ≡ Some (coefficient_at n parts)) × RisesFrom (suc node) parts)
      → whole ≡ Some (coefficient_at n all)
  made n node c rest all xs ys whole e here there later =
      let w = front-some node c rest all e in
      let more = later w.1 w.3 in
      elim (cases_eq node n) [
        | inl same ↦ here same ∙ w.2 ∙ ap (λ (c : ℤ). Some c) (sym (front-here n node w.0 w.1 more.1 same) ∙ ap (coefficient_at n) w.4)
        | inr other ↦ there other ∙ more.0 ∙ ap (λ (c : ℤ). Some c) (sym (front-other n node w.0 w.1 other) ∙ ap (coefficient_at n) w.4)
      ]

  module _ (x : Part) (xs : List Part) (nonzero : x.coefficient ≢ pos 0) (first : RisesFrom (suc x.node) xs)
      (below : (ys all : List Part) (low n : ℕ) → RisesFrom low ys → merged m xs k ys ≡ Some all → at_node n xs ys ≡ Some (coefficient_at n all)) where
    merged-at_from : (ys all : List Part) (low n : ℕ) → RisesFrom low ys → merged m (x ∷ xs) k ys ≡ Some all
        → at_node n (x ∷ xs) ys ≡ Some (coefficient_at n all)
    merged-at_from [] all low n rises e =
        combination-left_alone m (coefficient_at n (x ∷ xs)) k
        ∙ multiplied-at m (x ∷ xs) all x.node n (omega arith, nonzero, first) (sym (merged-left m k (x ∷ xs)) ∙ e)
    merged-at_from (y ∷ ys) all low n rises e = elim (cases_order x.node y.node) [
      | inl same ↦ made n x.node (combination m x.coefficient k y.coefficient) (merged m xs k ys) all xs ys (at_node n (x ∷ xs) (y ∷ ys))
          (sym (merged-same m k x y xs ys (omega arith) (omega arith)) ∙ e)
          (λ is. both_here n x y xs ys is (sym same ∙ is))
          (λ other i. combination m (at-other n x xs other i) k (at-other n y ys (λ is. other (same ∙ is)) i))
          (λ parts f. (
            below ys parts (suc y.node) n rises.2 f,
            rises-merged m k xs ys (suc x.node) parts first (subst (λ (node : ℕ). RisesFrom (suc node) ys) (sym same) rises.2) f,
          ))
      | inr (inl less) ↦ made n x.node (multiple m x.coefficient) (merged m xs k (y ∷ ys)) all xs (y ∷ ys) (at_node n (x ∷ xs) (y ∷ ys))
          (sym (merged-less m k x y xs ys less) ∙ e)
          (λ is. left_here n x xs (y ∷ ys) is (omega arith, rises.1, rises.2))
          (λ other i. combination m (at-other n x xs other i) k (coefficient_at n (y ∷ ys)))
          (λ parts f. (below (y ∷ ys) parts low n rises f, rises-merged m k xs (y ∷ ys) (suc x.node) parts first (omega arith, rises.1, rises.2) f))
      | inr (inr more) ↦ made n y.node (multiple k y.coefficient) (merged m (x ∷ xs) k ys) all (x ∷ xs) ys (at_node n (x ∷ xs) (y ∷ ys))
          (sym (merged-more m k x y xs ys more) ∙ e)
          (λ is. right_here n y (x ∷ xs) ys is (omega arith, nonzero, first))
          (λ other i. combination m (coefficient_at n (x ∷ xs)) k (at-other n y ys other i))
          (λ parts f. (
            merged-at_from ys parts (suc y.node) n rises.2 f,
            rises-merged m k (x ∷ xs) ys (suc y.node) parts (omega arith, nonzero, first) rises.2 f,
          ))
    ]

  merged-at : (xs ys all : List Part) (low high n : ℕ) → RisesFrom low xs → RisesFrom high ys → merged m xs k ys ≡ Some all
      → at_node n xs ys ≡ Some (coefficient_at n all)
  merged-at [] ys all low high n left right e =
      combination-right_alone m k (coefficient_at n ys) ∙ multiplied-at k ys all high n right (sym (merged-nil m k ys) ∙ e)
  merged-at (x ∷ xs) ys all low high n left right e =
      merged-at_from x xs left.1 left.2
      (λ others parts least i rises f. merged-at xs others parts (suc x.node) least i left.2 rises f) ys all high n right e

  -- a refusal at some node
  abbrev Refused : List Part → List Part → Type 0
  Refused xs ys = (n : ℕ) × (at_node n xs ys ≡ None)

  module _ (x : Part) (xs : List Part) (nonzero : x.coefficient ≢ pos 0) (first : RisesFrom (suc x.node) xs)
      (below : (ys : List Part) (low : ℕ) → RisesFrom low ys → merged m xs k ys ≡ None → Refused xs ys) where
    module _ (y : Part) (ys : List Part) (low : ℕ) (rises : RisesFrom low (y ∷ ys)) where
      -- a refusal of the rest is one of the whole, since below the rest there is none
      refused_same : x.node ≡ y.node → Refused xs ys → Refused (x ∷ xs) (y ∷ ys)
      refused_same same w =
          (w.0, (λ i. combination m (at-other w.0 x xs (λ is. apart is) i) k (at-other w.0 y ys (λ is. apart (same ∙ is)) i)) ∙ w.1)
        where
          apart : x.node ≡ w.0 → ⊥
          apart is = none-some (pos 0) (sym w.1 ∙ nobody w.0 (suc x.node) (suc y.node) xs ys first rises.2 (omega arith) (omega arith))

      refused_less : x.node < y.node → Refused xs (y ∷ ys) → Refused (x ∷ xs) (y ∷ ys)
      refused_less less w =
          (w.0, (λ i. combination m (at-other w.0 x xs apart i) k (coefficient_at w.0 (y ∷ ys))) ∙ w.1)
        where
          apart : x.node ≡ w.0 → ⊥
          apart is = none-some (pos 0)
              (sym w.1 ∙ nobody w.0 (suc x.node) (suc x.node) xs (y ∷ ys) first (omega arith, rises.1, rises.2) (omega arith) (omega arith))

      refused_more : y.node < x.node → Refused (x ∷ xs) ys → Refused (x ∷ xs) (y ∷ ys)
      refused_more more w =
          (w.0, (λ i. combination m (coefficient_at w.0 (x ∷ xs)) k (at-other w.0 y ys apart i)) ∙ w.1)
        where
          apart : y.node ≡ w.0 → ⊥
          apart is = none-some (pos 0)
              (sym w.1 ∙ nobody w.0 (suc y.node) (suc y.node) (x ∷ xs) ys (omega arith, nonzero, first) rises.2 (omega arith) (omega arith))

    refused_from : (ys : List Part) (low : ℕ) → RisesFrom low ys → merged m (x ∷ xs) k ys ≡ None → Refused (x ∷ xs) ys
    refused_from [] low rises e =
        let w = multiplied-refused m (x ∷ xs) x.node (omega arith, nonzero, first) (sym (merged-left m k (x ∷ xs)) ∙ e) in
        (w.0, combination-left_alone m (coefficient_at w.0 (x ∷ xs)) k ∙ w.1)
    refused_from (y ∷ ys) low rises e = elim (cases_order x.node y.node) [
      | inl same ↦ elim (front-none x.node (combination m x.coefficient k y.coefficient) (merged m xs k ys)
          (sym (merged-same m k x y xs ys (omega arith) (omega arith)) ∙ e)) [
            | inl here ↦ (x.node, both_here x.node x y xs ys refl (sym same) ∙ here)
            | inr later ↦ refused_same y ys low rises same (below ys (suc y.node) rises.2 later)
          ]
      | inr (inl less) ↦ elim (front-none x.node (multiple m x.coefficient) (merged m xs k (y ∷ ys)) (sym (merged-less m k x y xs ys less) ∙ e)) [
        | inl here ↦ (x.node, left_here x.node x xs (y ∷ ys) refl (omega arith, rises.1, rises.2) ∙ here)
        | inr later ↦ refused_less y ys low rises less (below (y ∷ ys) low rises later)
      ]
      | inr (inr more) ↦ elim (front-none y.node (multiple k y.coefficient) (merged m (x ∷ xs) k ys) (sym (merged-more m k x y xs ys more) ∙ e)) [
        | inl here ↦ (y.node, right_here y.node y (x ∷ xs) ys refl (omega arith, nonzero, first) ∙ here)
        | inr later ↦ refused_more y ys low rises more (refused_from ys (suc y.node) rises.2 later)
      ]
    ]

  merged-refused : (xs ys : List Part) (low high : ℕ) → RisesFrom low xs → RisesFrom high ys → merged m xs k ys ≡ None → Refused xs ys
  merged-refused [] ys low high left right e =
      let w = multiplied-refused k ys high right (sym (merged-nil m k ys) ∙ e) in
      (w.0, combination-right_alone m k (coefficient_at w.0 ys) ∙ w.1)
  merged-refused (x ∷ xs) ys low high left right e =
      refused_from x xs left.1 left.2 (λ others least rises f. merged-refused xs others (suc x.node) least left.2 rises f) ys high right e

-- ---- forms
both-refused : (parts : Option (List Part)) (constant : Option ℤ) → both parts constant ≡ None → (parts ≡ None) ⊎ (constant ≡ None)
both-refused None constant e = inl refl
both-refused (Some parts) None e = inr refl
both-refused (Some parts) (Some constant) e = absurd (none-some (form_data parts constant) (sym e))

pub sum-by_node : (a b sum : FormData) (m k : ℤ) → IsForm a → IsForm b → scaled_sum a m b k ≡ Some sum
    → ((n : ℕ) → combination m (coefficient_at n a.parts) k (coefficient_at n b.parts) ≡ Some (coefficient_at n sum.parts))
    × (combination m a.constant k b.constant ≡ Some sum.constant)
sum-by_node a b sum m k left right e =
    let w = both-some (merged m a.parts k b.parts) (combination m a.constant k b.constant) sum e in
    (λ n. merged-at m k a.parts b.parts sum.parts 0 0 n left right w.0, w.1)

pub refusal-by_node : (a b : FormData) (m k : ℤ) → IsForm a → IsForm b → scaled_sum a m b k ≡ None
    → ((n : ℕ) × (combination m (coefficient_at n a.parts) k (coefficient_at n b.parts) ≡ None))
    ⊎ (combination m a.constant k b.constant ≡ None)
refusal-by_node a b m k left right e = elim (both-refused (merged m a.parts k b.parts) (combination m a.constant k b.constant) e) [
  | inl parts ↦ inl (merged-refused m k a.parts b.parts 0 0 left right parts)
  | inr constant ↦ inr constant
]

-- parts with the same coefficients are the same
one-first : (x y : Part) (xs ys : List Part) (low high : ℕ) → RisesFrom low (x ∷ xs) → RisesFrom high (y ∷ ys)
    → ((n : ℕ) → coefficient_at n (x ∷ xs) ≡ coefficient_at n (y ∷ ys)) → x.node ≡ y.node
one-first x y xs ys low high left right same = elim (cases_order x.node y.node) [
  | inl is ↦ is
  | inr (inl less) ↦ absurd (left.1 (sym (at-here x.node x xs refl) ∙ same x.node ∙ at-below x.node y.node (y ∷ ys) (omega arith, right.1, right.2) less))
  | inr (inr more) ↦ absurd (right.1 (sym (at-here y.node y ys refl) ∙ sym (same y.node) ∙ at-below y.node x.node (x ∷ xs) (omega arith, left.1, left.2) more))
]

one-list : (xs ys : List Part) (low high : ℕ) → RisesFrom low xs → RisesFrom high ys
    → ((n : ℕ) → coefficient_at n xs ≡ coefficient_at n ys) → xs ≡ ys
one-list [] [] low high left right same = refl
one-list [] (y ∷ ys) low high left right same = absurd (right.1 (sym (at-here y.node y ys refl) ∙ sym (same y.node)))
one-list (x ∷ xs) [] low high left right same = absurd (left.1 (sym (at-here x.node x xs refl) ∙ same x.node))
one-list (x ∷ xs) (y ∷ ys) low high left right same =
    let nodes = one-first x y xs ys low high left right same in
    let coefficients : x.coefficient ≡ y.coefficient =
    sym (at-here x.node x xs refl) ∙ same x.node ∙ at-here x.node y ys (sym nodes) in
    let parts : x ≡ y = λ i. part_of (nodes i) (coefficients i) in
    λ i. parts i ∷ one-list xs ys (suc x.node) (suc y.node) left.2 right.2 (rest nodes) i
  where
    rest : x.node ≡ y.node → (n : ℕ) → coefficient_at n xs ≡ coefficient_at n ys
    rest nodes n = elim (cases_eq x.node n) [
      | inl is ↦ at-below n (suc x.node) xs left.2 (omega arith) ∙ sym (at-below n (suc y.node) ys right.2 (omega arith))
      | inr other ↦ sym (at-other n x xs other) ∙ same n ∙ at-other n y ys (λ is. other (nodes ∙ is))
    ]

pub one-form : (a b : FormData) → IsForm a → IsForm b → ((n : ℕ) → coefficient_at n a.parts ≡ coefficient_at n b.parts)
    → a.constant ≡ b.constant → a ≡ b
one-form a b left right same constants =
    let parts = one-list a.parts b.parts 0 0 left right same in λ i. form_data (parts i) (constants i)
