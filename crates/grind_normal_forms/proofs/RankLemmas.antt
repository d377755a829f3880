-- The rank of a monomial falls with it.
use Rattle.std.proofs.Common.{◌≡◌, inl, inr, ℕ, ◌+◌, ◌-◌, ◌*◌, ◌<◌, ◌≤◌, List, [], ◌∷◌, length, arith, sym, ap, ◌∙◌, refl}
use Rattle.std.proofs.lemmas.Bool.{cases_order}
use Rattle.std.proofs.Math.Nat.{mul-le-mul_left, mul-le-mul_right, add-mul}
use Rattle.grind_monomials.specs.declared.order.Place.TheVariants.{Above}
use Rattle.grind_monomials.specs.Order.{place, place_by_nodes}
use Rattle.grind_monomials.specs.Monomials.{product, quotient}
use Rattle.grind_monomials.proofs.Clauses.{nodes-end, product-nil, product-left, product-more, product-less, quotient-nil, quotient-left, quotient-more, quotient-less, quotient-same}
use Rattle.grind_monomials.proofs.Orders.{more, same, same-not_above, below-not_above, above-is}
use Rattle.grind_polynomials.specs.declared.poly.Term.{Term}
use Rattle.grind_normal_forms.specs.Ranks.{IsLow, AreLow, BasisIsLow, above_nodes, above_terms, above_basis, power, rank}

-- ---- nodes below a number
low-product_from : (n x : ℕ) (xs : List ℕ) → ((ys : List ℕ) → IsLow n xs → IsLow n ys → IsLow n (product xs ys))
    → (ys : List ℕ) → IsLow n (x ∷ xs) → IsLow n ys → IsLow n (product (x ∷ xs) ys)
low-product_from n x xs below [] left right = rw (product-left (x ∷ xs)) left
low-product_from n x xs below (y ∷ ys) left right = elim (cases_order y x) [
  | inl is ↦ rw (product-less x y xs ys (omega arith)) (left.0, below (y ∷ ys) left.1 right)
  | inr (inl h) ↦ rw (product-more x y xs ys h) (right.0, low-product_from n x xs below ys left right.1)
  | inr (inr h) ↦ rw (product-less x y xs ys (omega arith)) (left.0, below (y ∷ ys) left.1 right)
]

pub low-product : (n : ℕ) (xs ys : List ℕ) → IsLow n xs → IsLow n ys → IsLow n (product xs ys)
low-product n [] ys left right = rw (product-nil ys) right
low-product n (x ∷ xs) ys left right = low-product_from n x xs (low-product n xs) ys left right

low-quotient_from : (n x : ℕ) (xs : List ℕ) → ((ys : List ℕ) → IsLow n xs → IsLow n (quotient xs ys))
    → (ys : List ℕ) → IsLow n (x ∷ xs) → IsLow n (quotient (x ∷ xs) ys)
low-quotient_from n x xs below [] left = rw (quotient-left (x ∷ xs)) left
low-quotient_from n x xs below (y ∷ ys) left = elim (cases_order x y) [
  | inl is ↦ rw (quotient-same x y xs ys (omega arith) (omega arith)) (below ys left.1)
  | inr (inl h) ↦ rw (quotient-less x y xs ys h) (left.0, below (y ∷ ys) left.1)
  | inr (inr h) ↦ rw (quotient-more x y xs ys h) (low-quotient_from n x xs below ys left)
]

pub low-quotient : (n : ℕ) (xs ys : List ℕ) → IsLow n xs → IsLow n (quotient xs ys)
low-quotient n [] ys left = rw (quotient-nil ys) tt
low-quotient n (x ∷ xs) ys left = low-quotient_from n x xs (low-quotient n xs) ys left

-- each list has a number above its nodes
pub low-nodes : (n : ℕ) (xs : List ℕ) → above_nodes xs ≤ n → IsLow n xs
low-nodes n [] h = tt
low-nodes n (x ∷ xs) h = (omega arith, low-nodes n xs (omega arith))

pub low-terms : (n : ℕ) (terms : List Term) → above_terms terms ≤ n → AreLow n terms
low-terms n [] h = tt
low-terms n (t ∷ ts) h = (low-nodes n t.monomial (omega arith), low-terms n ts (omega arith))

pub low-basis : (n : ℕ) (basis : List (List Term)) → above_basis basis ≤ n → BasisIsLow n basis
low-basis n [] h = tt
low-basis n (b ∷ bs) h = (low-terms n b (omega arith), low-basis n bs (omega arith))

-- ---- ranks
power-nil : (n : ℕ) → power n [] ≡ 1
unfolding power
power-nil n = refl

power-cons : (n x : ℕ) (xs : List ℕ) → power n (x ∷ xs) ≡ power n xs + n * power n xs
unfolding power
power-cons n x xs = refl

rank-nil : (n : ℕ) → rank n [] ≡ 0
unfolding rank
rank-nil n = refl

rank-cons : (n x : ℕ) (xs : List ℕ) → rank n (x ∷ xs) ≡ (n - x) * power n xs + rank n xs
unfolding rank
rank-cons n x xs = refl

power-positive : (n : ℕ) (xs : List ℕ) → 1 ≤ power n xs
power-positive n [] = let e = power-nil n in omega arith
power-positive n (x ∷ xs) = let e = power-cons n x xs in let h = power-positive n xs in omega arith

power-grows : (n : ℕ) (xs ys : List ℕ) → length xs ≤ length ys → power n xs ≤ power n ys
power-grows n [] ys h = let e = power-nil n in let p = power-positive n ys in omega arith
power-grows n (x ∷ xs) [] h = absurd (omega arith)
power-grows n (x ∷ xs) (y ∷ ys) h =
    let one = power-cons n x xs in
    let two = power-cons n y ys in
    let below = power-grows n xs ys (omega arith) in
    let times = mul-le-mul_left n below in omega arith

rank-below : (n : ℕ) (xs : List ℕ) → IsLow n xs → rank n xs < power n xs
rank-below n [] low = let e = power-nil n in let f = rank-nil n in omega arith
rank-below n (x ∷ xs) low =
    let one = power-cons n x xs in
    let two = rank-cons n x xs in
    let rest = rank-below n xs low.1 in
    let digit : n - x ≤ n = omega arith in
    let times = mul-le-mul_right (power n xs) digit in omega arith

rank-above : (n x : ℕ) (xs : List ℕ) → x < n → power n xs ≤ rank n (x ∷ xs)
rank-above n x xs h =
    let one = rank-cons n x xs in
    let digit : 1 ≤ n - x = omega arith in
    let times = mul-le-mul_right (power n xs) digit in omega arith

rank-longer : (n : ℕ) (a b : List ℕ) → IsLow n a → IsLow n b → length b < length a → rank n b < rank n a
rank-longer n [] b left right h = absurd (omega arith)
rank-longer n (x ∷ xs) b left right h =
    let one = rank-below n b right in
    let two = power-grows n b xs (omega arith) in
    let three = rank-above n x xs left.0 in omega arith

rank-nodes : (n : ℕ) (a b : List ℕ) → IsLow n a → IsLow n b → length a ≡ length b → place_by_nodes a b ≡ Above → rank n b < rank n a
rank-nodes n [] b left right size e = absurd (same-not_above (sym (nodes-end [] b refl) ∙ e))
rank-nodes n (x ∷ xs) [] left right size e = absurd (omega arith)
rank-nodes n (x ∷ xs) (y ∷ ys) left right size e = elim (cases_order x y) [
  | inl is ↦
      let one = rank-cons n x xs in
      let two = rank-cons n y ys in
      let low = power-grows n xs ys (omega arith) in
      let high = power-grows n ys xs (omega arith) in
      let later = rank-nodes n xs ys left.1 right.1 (omega arith) (sym (same x y xs ys is) ∙ e) in
      let first : (n - x) * power n xs ≡ (n - y) * power n xs = ap (λ (k : ℕ). (n - k) * power n xs) is in
      let powers : power n xs ≡ power n ys = omega arith in
      let second : (n - y) * power n xs ≡ (n - y) * power n ys = ap (λ (k : ℕ). (n - y) * k) powers in omega arith
  | inr (inl h) ↦
      let one = rank-cons n x xs in
      let two = rank-cons n y ys in
      let low = power-grows n xs ys (omega arith) in
      let high = power-grows n ys xs (omega arith) in
      let rest = rank-below n ys right.1 in
      let last = right.0 in
      let digit : (n - y) + 1 ≤ n - x = omega arith in
      let times = mul-le-mul_right (power n xs) digit in
      let sum = add-mul (n - y) 1 (power n xs) in
      let powers : power n xs ≡ power n ys = omega arith in
      let second : (n - y) * power n xs ≡ (n - y) * power n ys = ap (λ (k : ℕ). (n - y) * k) powers in omega arith
  | inr (inr h) ↦ absurd (below-not_above (sym (more x y xs ys h) ∙ e))
]

pub rank-falls : (n : ℕ) (a b : List ℕ) → IsLow n a → IsLow n b → place a b ≡ Above → rank n b < rank n a
rank-falls n a b left right e = elim (above-is a b e) [
  | inl h ↦ rank-longer n a b left right h
  | inr h ↦ rank-nodes n a b left right h.0 h.1
]
