-- Monomials by how often each node stands in them.
use Rattle.std.proofs.Common.{◌≡◌, inl, inr, ℕ, ◌+◌, ◌-◌, ◌<◌, ◌≤◌, eqb, cond, List, [], ◌∷◌, length, arith, sym, ap, ◌∙◌, refl}
use Rattle.std.proofs.lemmas.Bool.{cases_order, cond-true, cond-false, eq-eqb, eqb-true, false_from_ne_true}
use Rattle.grind_monomials.specs.declared.order.Place.TheVariants.{Above}
use Rattle.grind_monomials.specs.Order.{place, place_by_nodes}
use Rattle.grind_monomials.specs.Monomials.{RisesFrom, IsMonomial, product, quotient, Divides}
use Rattle.grind_monomials.specs.Counts.{count}
use Rattle.grind_monomials.proofs.Clauses.{nodes-end, nodes-no_more, place-above, product-nil, product-left, product-more, product-less, quotient-nil, quotient-left, quotient-more, quotient-less, quotient-same}
use Rattle.grind_monomials.proofs.Orders.{less, more, same, same-not_above, below-not_above, above-is, above-by_nodes}

-- ---- counts
pub count-nil : (n : ℕ) → count n [] ≡ 0
unfolding count
count-nil n = refl

count-cons : (n x : ℕ) (xs : List ℕ) → count n (x ∷ xs) ≡ cond (eqb n x) 1 0 + count n xs
unfolding count
count-cons n x xs = refl

pub count-here : (n x : ℕ) (xs : List ℕ) → n ≡ x → count n (x ∷ xs) ≡ 1 + count n xs
count-here n x xs e = count-cons n x xs ∙ ap (λ (k : ℕ). k + count n xs) (cond-true (eqb n x) 1 0 (eq-eqb n x e))

zero_more : (k m : ℕ) → k ≡ 0 → k + m ≡ m
zero_more k m e = omega arith

pub count-not : (n x : ℕ) (xs : List ℕ) → (n ≡ x → ⊥) → count n (x ∷ xs) ≡ count n xs
count-not n x xs e =
    count-cons n x xs
    ∙ zero_more (cond (eqb n x) 1 0) (count n xs) (cond-false (eqb n x) 1 0 (false_from_ne_true (eqb n x) (λ t. e (eqb-true n x t))))

-- one more node on both sides of an equation of counts
count-front : (n x : ℕ) (xs : List ℕ) → (one : ℕ) × ((ys : List ℕ) → count n (x ∷ ys) ≡ one + count n ys)
count-front n x xs = (cond (eqb n x) 1 0, λ ys. count-cons n x ys)

-- ---- order
pub rises-lower : (low high : ℕ) (xs : List ℕ) → low ≤ high → RisesFrom high xs → RisesFrom low xs
rises-lower low high [] h rises = tt
rises-lower low high (x ∷ xs) h rises = let least = rises.0 in (omega arith, rises.1)

-- what is below all nodes does not stand there
pub count-below : (n least : ℕ) (xs : List ℕ) → n < least → RisesFrom least xs → count n xs ≡ 0
count-below n least [] h rises = count-nil n
count-below n least (x ∷ xs) h rises =
    let low = rises.0 in count-not n x xs (λ e. omega arith) ∙ count-below n least xs h (rises-lower least x xs low rises.1)

-- ---- the product
module _ (n x : ℕ) (xs : List ℕ) (below : (ys : List ℕ) → count n (product xs ys) ≡ count n xs + count n ys) where
  count-product_from : (ys : List ℕ) → count n (product (x ∷ xs) ys) ≡ count n (x ∷ xs) + count n ys
  count-product_from [] =
      let none = count-nil n in ap (count n) (product-left (x ∷ xs)) ∙ omega arith
  count-product_from (y ∷ ys) = elim (cases_order y x) [
    | inl is ↦ at_less (omega arith)
    | inr (inl h) ↦
        let front = count-front n y [] in
        let whole = front.1 (product (x ∷ xs) ys) in
        let part = front.1 ys in
        let later = count-product_from ys in ap (count n) (product-more x y xs ys h) ∙ omega arith
    | inr (inr h) ↦ at_less (omega arith)
  ]
    where
      at_less : x ≤ y → count n (product (x ∷ xs) (y ∷ ys)) ≡ count n (x ∷ xs) + count n (y ∷ ys)
      at_less h =
          let front = count-front n x [] in
          let whole = front.1 (product xs (y ∷ ys)) in
          let part = front.1 xs in
          let later = below (y ∷ ys) in ap (count n) (product-less x y xs ys h) ∙ omega arith

pub count-product : (n : ℕ) (xs ys : List ℕ) → count n (product xs ys) ≡ count n xs + count n ys
count-product n [] ys = let none = count-nil n in ap (count n) (product-nil ys) ∙ omega arith
count-product n (x ∷ xs) ys = count-product_from n x xs (count-product n xs) ys

module _ (x : ℕ) (xs : List ℕ) (below : (ys : List ℕ) → length (product xs ys) ≡ length xs + length ys) where
  length-product_from : (ys : List ℕ) → length (product (x ∷ xs) ys) ≡ length (x ∷ xs) + length ys
  length-product_from [] = ap length (product-left (x ∷ xs)) ∙ omega arith
  length-product_from (y ∷ ys) = elim (cases_order y x) [
    | inl is ↦ let later = below (y ∷ ys) in ap length (product-less x y xs ys (omega arith)) ∙ omega arith
    | inr (inl h) ↦ let later = length-product_from ys in ap length (product-more x y xs ys h) ∙ omega arith
    | inr (inr h) ↦ let later = below (y ∷ ys) in ap length (product-less x y xs ys (omega arith)) ∙ omega arith
  ]

pub length-product : (xs ys : List ℕ) → length (product xs ys) ≡ length xs + length ys
length-product [] ys = ap length (product-nil ys) ∙ omega arith
length-product (x ∷ xs) ys = length-product_from x xs (length-product xs) ys

module _ (x : ℕ) (xs : List ℕ)
    (below : (ys : List ℕ) (least : ℕ) → RisesFrom least xs → RisesFrom least ys → RisesFrom least (product xs ys)) where
  rises-product_from : (ys : List ℕ) (least : ℕ) → RisesFrom least (x ∷ xs) → RisesFrom least ys → RisesFrom least (product (x ∷ xs) ys)
  rises-product_from [] least left right = rw (product-left (x ∷ xs)) left
  rises-product_from (y ∷ ys) least left right = elim (cases_order y x) [
    | inl is ↦ rw (product-less x y xs ys (omega arith)) (left.0, below (y ∷ ys) x left.1 (omega arith, right.1))
    | inr (inl h) ↦ rw (product-more x y xs ys h) (right.0, rises-product_from ys y (omega arith, left.1) right.1)
    | inr (inr h) ↦ rw (product-less x y xs ys (omega arith)) (left.0, below (y ∷ ys) x left.1 (omega arith, right.1))
  ]

pub rises-product : (xs ys : List ℕ) (least : ℕ) → RisesFrom least xs → RisesFrom least ys → RisesFrom least (product xs ys)
rises-product [] ys least left right = rw (product-nil ys) right
rises-product (x ∷ xs) ys least left right = rises-product_from x xs (rises-product xs) ys least left right

-- ---- the quotient
module _ (n x : ℕ) (xs : List ℕ)
    (below : (ys : List ℕ) (least : ℕ) → RisesFrom x xs → RisesFrom least ys → count n (quotient xs ys) ≡ count n xs - count n ys) where
  count-quotient_from : (ys : List ℕ) (low least : ℕ) → RisesFrom low (x ∷ xs) → RisesFrom least ys
      → count n (quotient (x ∷ xs) ys) ≡ count n (x ∷ xs) - count n ys
  count-quotient_from [] low least left right =
      let none = count-nil n in ap (count n) (quotient-left (x ∷ xs)) ∙ omega arith
  count-quotient_from (y ∷ ys) low least left right = elim (cases_order x y) [
    | inl is ↦
        let one = (count-front n x []).1 xs in
        let two = (count-front n x []).1 ys in
        let other : count n (y ∷ ys) ≡ count n (x ∷ ys) = ap (λ (z : ℕ). count n (z ∷ ys)) (sym is) in
        let later = below ys y left.1 right.1 in
        ap (count n) (quotient-same x y xs ys (omega arith) (omega arith)) ∙ omega arith
    | inr (inl h) ↦ elim (cases_order n x) [
      | inl here ↦
          let absent = count-below n y (y ∷ ys) (omega arith) (omega arith, right.1) in
          let whole = count-here n x (quotient xs (y ∷ ys)) here in
          let part = count-here n x xs here in
          let later = below (y ∷ ys) y left.1 (omega arith, right.1) in
          ap (count n) (quotient-less x y xs ys h) ∙ omega arith
      | inr (inl i) ↦ elsewhere h (λ e. omega arith)
      | inr (inr i) ↦ elsewhere h (λ e. omega arith)
    ]
    | inr (inr h) ↦ elim (cases_order n y) [
      | inl here ↦
          let absent = count-below n x (x ∷ xs) (omega arith) (omega arith, left.1) in
          let later = count-quotient_from ys low y left right.1 in
          ap (count n) (quotient-more x y xs ys h) ∙ omega arith
      | inr (inl i) ↦ skipped h (λ e. omega arith) (count-quotient_from ys low y left right.1)
      | inr (inr i) ↦ skipped h (λ e. omega arith) (count-quotient_from ys low y left right.1)
    ]
  ]
    where
      elsewhere : x < y → (n ≡ x → ⊥) → count n (quotient (x ∷ xs) (y ∷ ys)) ≡ count n (x ∷ xs) - count n (y ∷ ys)
      elsewhere h not_here =
          let whole = count-not n x (quotient xs (y ∷ ys)) not_here in
          let part = count-not n x xs not_here in
          let later = below (y ∷ ys) y left.1 (omega arith, right.1) in
          ap (count n) (quotient-less x y xs ys h) ∙ omega arith

      skipped : y < x → (n ≡ y → ⊥) → count n (quotient (x ∷ xs) ys) ≡ count n (x ∷ xs) - count n ys
          → count n (quotient (x ∷ xs) (y ∷ ys)) ≡ count n (x ∷ xs) - count n (y ∷ ys)
      skipped h not_here later =
          let part = count-not n y ys not_here in
          ap (count n) (quotient-more x y xs ys h) ∙ omega arith

pub count-quotient : (n : ℕ) (xs ys : List ℕ) (low least : ℕ) → RisesFrom low xs → RisesFrom least ys
    → count n (quotient xs ys) ≡ count n xs - count n ys
count-quotient n [] ys low least left right = let none = count-nil n in ap (count n) (quotient-nil ys) ∙ omega arith
count-quotient n (x ∷ xs) ys low least left right =
    count-quotient_from n x xs (λ others more. count-quotient n xs others x more) ys low least left right

module _ (x : ℕ) (xs : List ℕ) (below : (ys : List ℕ) (low : ℕ) → RisesFrom low xs → RisesFrom low (quotient xs ys)) where
  rises-quotient_from : (ys : List ℕ) (low : ℕ) → RisesFrom low (x ∷ xs) → RisesFrom low (quotient (x ∷ xs) ys)
  rises-quotient_from [] low left = rw (quotient-left (x ∷ xs)) left
  rises-quotient_from (y ∷ ys) low left = elim (cases_order x y) [
    | inl is ↦ rw (quotient-same x y xs ys (omega arith) (omega arith)) (below ys low (rises-lower low x xs left.0 left.1))
    | inr (inl h) ↦ rw (quotient-less x y xs ys h) (left.0, below (y ∷ ys) x left.1)
    | inr (inr h) ↦ rw (quotient-more x y xs ys h) (rises-quotient_from ys low left)
  ]

pub rises-quotient : (xs ys : List ℕ) (low : ℕ) → RisesFrom low xs → RisesFrom low (quotient xs ys)
rises-quotient [] ys low left = rw (quotient-nil ys) tt
rises-quotient (x ∷ xs) ys low left = rises-quotient_from x xs (rises-quotient xs) ys low left

-- ---- counts decide
pub counts-decide : (xs ys : List ℕ) (low least : ℕ) → RisesFrom low xs → RisesFrom least ys
    → ((n : ℕ) → count n xs ≡ count n ys) → xs ≡ ys
counts-decide [] [] low least left right h = refl
counts-decide [] (y ∷ ys) low least left right h =
    let one = h y in let two = count-nil y in let three = count-here y y ys refl in absurd (omega arith)
counts-decide (x ∷ xs) [] low least left right h =
    let one = h x in let two = count-nil x in let three = count-here x x xs refl in absurd (omega arith)
counts-decide (x ∷ xs) (y ∷ ys) low least left right h = elim (cases_order x y) [
  | inl is ↦ (λ i. is i ∷ counts-decide xs ys x y left.1 right.1 (rest is) i)
  | inr (inl i) ↦
      let one = h x in
      let two = count-here x x xs refl in
      let three = count-below x y (y ∷ ys) i (omega arith, right.1) in absurd (omega arith)
  | inr (inr i) ↦
      let one = h y in
      let two = count-here y y ys refl in
      let three = count-below y x (x ∷ xs) i (omega arith, left.1) in absurd (omega arith)
]
  where
    rest : x ≡ y → (n : ℕ) → count n xs ≡ count n ys
    rest is n =
        let one = h n in
        let two = (count-front n x []).1 xs in
        let three = (count-front n x []).1 ys in
        let other : count n (y ∷ ys) ≡ count n (x ∷ ys) = ap (λ (z : ℕ). count n (z ∷ ys)) (sym is) in omega arith

-- a divisor stands in what it divides
pub divides-counts : (n : ℕ) (a b : List ℕ) → IsMonomial a → IsMonomial b → Divides a b → count n a ≤ count n b
divides-counts n a b left right e =
    let one = count-quotient n a b 0 0 left right in
    let two : count n (quotient a b) ≡ 0 = ap (count n) e ∙ count-nil n in omega arith

pub product-quotient : (a b : List ℕ) → IsMonomial a → IsMonomial b → Divides a b → product a (quotient b a) ≡ b
product-quotient a b left right e =
    counts-decide (product a (quotient b a)) b 0 0 (rises-product a (quotient b a) 0 left (rises-quotient b a 0 right)) right
    (λ n. let one = count-product n a (quotient b a) in
    let two = count-quotient n b a 0 0 right left in
    let three = divides-counts n a b left right e in omega arith)

pub divides-product : (a more : List ℕ) → IsMonomial a → IsMonomial more → Divides a (product a more)
divides-product a further left right =
    counts-decide (quotient a (product a further)) [] 0 0 (rises-quotient a (product a further) 0 left) tt
    (λ n. let one = count-product n a further in
    let two = count-quotient n a (product a further) 0 0 left (rises-product a further 0 left right) in
    let three = count-nil n in omega arith)

-- ---- the order by counts
-- the first node that does not stand equally often in both stands more often in the first
record Leads (a b : List ℕ) (n : ℕ) : Type 0 where
  at : count n b < count n a
  before : (k : ℕ) → k < n → count k a ≡ count k b

leads : (xs ys : List ℕ) (low least : ℕ) → RisesFrom low xs → RisesFrom least ys → place_by_nodes xs ys ≡ Above
    → (n : ℕ) × Leads xs ys n
leads [] ys low least left right e = absurd (same-not_above (sym (nodes-end [] ys refl) ∙ e))
leads (x ∷ xs) [] low least left right e = absurd (same-not_above (sym (nodes-no_more (x ∷ xs) [] refl) ∙ e))
leads (x ∷ xs) (y ∷ ys) low least left right e = elim (cases_order x y) [
  | inl is ↦ let later = leads xs ys x y left.1 right.1 (sym (same x y xs ys is) ∙ e) in one_more is later.0 later.1
  | inr (inl h) ↦ (
    x,
    record {
      at = let one = count-here x x xs refl in
          let two = count-below x y (y ∷ ys) h (omega arith, right.1) in omega arith;
      before = λ k i. count-below k x (x ∷ xs) i (omega arith, left.1)
          ∙ sym (count-below k y (y ∷ ys) (omega arith) (omega arith, right.1));
    },
  )
  | inr (inr h) ↦ absurd (below-not_above (sym (more x y xs ys h) ∙ e))
]
  where
    one_more : x ≡ y → (n : ℕ) → Leads xs ys n → (n : ℕ) × Leads (x ∷ xs) (y ∷ ys) n
    one_more is n later = (
      n,
      record {
        at =
            let one = (count-front n x []).1 xs in
            let two = (count-front n x []).1 ys in
            let other : count n (y ∷ ys) ≡ count n (x ∷ ys) = ap (λ (z : ℕ). count n (z ∷ ys)) (sym is) in
            let known = later.at in omega arith;
        before = λ k i.
            let one = (count-front k x []).1 xs in
            let two = (count-front k x []).1 ys in
            let other : count k (y ∷ ys) ≡ count k (x ∷ ys) = ap (λ (z : ℕ). count k (z ∷ ys)) (sym is) in
            let known = later.before k i in omega arith;
      },
    )

follows : (xs ys : List ℕ) (low least n : ℕ) → RisesFrom low xs → RisesFrom least ys → length xs ≡ length ys
    → Leads xs ys n → place_by_nodes xs ys ≡ Above
follows [] ys low least n left right size h =
    let known = h.at in let none = count-nil n in absurd (omega arith)
follows (x ∷ xs) [] low least n left right size h = absurd (omega arith)
follows (x ∷ xs) (y ∷ ys) low least n left right size h = elim (cases_order x y) [
  | inl is ↦ same x y xs ys is ∙ follows xs ys x y n left.1 right.1 (omega arith) (rest is)
  | inr (inl i) ↦ less x y xs ys i
  | inr (inr i) ↦ absurd (elim (cases_order n x) [
    | inl here ↦ first i (omega arith)
    | inr (inl j) ↦
        let known = h.at in
        let absent = count-below n x (x ∷ xs) j (omega arith, left.1) in omega arith
    | inr (inr j) ↦ first i (omega arith)
  ])
]
  where
    first : y < x → x ≤ n → ⊥
    first i j =
        let known = h.before y (omega arith) in
        let one = count-here y y ys refl in
        let two = count-below y x (x ∷ xs) i (omega arith, left.1) in omega arith

    rest : x ≡ y → Leads xs ys n
    rest is = record {
      at =
          let one = (count-front n x []).1 xs in
          let two = (count-front n x []).1 ys in
          let other : count n (y ∷ ys) ≡ count n (x ∷ ys) = ap (λ (z : ℕ). count n (z ∷ ys)) (sym is) in
          let known = h.at in omega arith;
      before = λ k i.
          let one = (count-front k x []).1 xs in
          let two = (count-front k x []).1 ys in
          let other : count k (y ∷ ys) ≡ count k (x ∷ ys) = ap (λ (z : ℕ). count k (z ∷ ys)) (sym is) in
          let known = h.before k i in omega arith;
    }

-- a factor keeps the order
pub place-product : (a b further : List ℕ) → IsMonomial a → IsMonomial b → IsMonomial further → place a b ≡ Above
    → place (product a further) (product b further) ≡ Above
place-product a b further left right last e =
    let one = length-product a further in
    let two = length-product b further in elim (above-is a b e) [
      | inl h ↦ place-above (product a further) (product b further) (omega arith)
      | inr h ↦
          let size = h.0 in
          let led = leads a b 0 0 left right h.1 in
          above-by_nodes (product a further) (product b further) (omega arith)
          (follows (product a further) (product b further) 0 0 led.0 (rises-product a further 0 left last) (rises-product b further 0 right last)
          (omega arith) (multiplied led.0 led.1))
    ]
  where
    multiplied : (n : ℕ) → Leads a b n → Leads (product a further) (product b further) n
    multiplied n h = record {
      at =
          let one = count-product n a further in
          let two = count-product n b further in
          let known = h.at in omega arith;
      before = λ k i.
          let one = count-product k a further in
          let two = count-product k b further in
          let known = h.before k i in omega arith;
    }
