-- Where the degrees of two polynomials are together at most 16, no product of their terms has a degree over 16.
use Rattle.std.proofs.Common.{◌≡◌, ◌⊎◌, inl, inr, ℕ, ◌+◌, ◌≤◌, Bool, false, List, [], ◌∷◌, ◌++◌, length, ℤ, ◌+ℤ◌, ◌*ℤ◌, Result, Ok, Err, arith, sym, ap, ◌∙◌, refl}
use Rattle.std.proofs.lemmas.Bool.{le-ltb, ltb-false}
use Rattle.grind_monomials.specs.declared.order.Place.{Place}
use Rattle.grind_monomials.specs.declared.order.Place.TheVariants.{Above, Same, Below}
use Rattle.grind_monomials.specs.Order.{place}
use Rattle.grind_monomials.specs.Monomials.{product}
use Rattle.grind_monomials.proofs.Orders.{above-is}
use Rattle.grind_polynomials.specs.declared.poly.Term.{Term}
use Rattle.grind_polynomials.specs.declared.poly.PolyRefusal.{PolyRefusal}
use Rattle.grind_polynomials.specs.declared.poly.PolyRefusal.TheVariants.{Overflow, Degree}
use Rattle.grind_polynomials.specs.Polynomials.{StartsBelow, IsPoly, degree, is_over, fit_or_refuse}
use Rattle.grind_polynomials.specs.Sums.{and_then, signed, in_front, front, with_more, with_multiple, with_product, with_products, with_all_products}
use Rattle.grind_polynomials.proofs.Fits.{ok-err, same_Err, fit_refuses}
use Rattle.grind_polynomials.proofs.Putting.{more-nil, more-above, more-same, more-below}
use Rattle.grind_polynomials.proofs.Products.{multiple-is, product-within, products-nil, products-cons, all-nil, all-cons}

-- ---- degrees
-- each monomial has at most this degree
IsWithin : ℕ → List Term → Type 0
IsWithin most [] = Unit {0}
IsWithin most (term ∷ rest) = (length term.monomial ≤ most) × IsWithin most rest

within-more : (low high : ℕ) (terms : List Term) → low ≤ high → IsWithin low terms → IsWithin high terms
unfolding IsWithin
within-more low high [] h within = tt
within-more low high (term ∷ rest) h within = let first = within.0 in (omega arith, within-more low high rest h within.1)

above-degree : (a b : List ℕ) → place a b ≡ Above → length b ≤ length a
above-degree a b e = elim (above-is a b e) [ inl h ↦ omega arith | inr h ↦ let size = h.0 in omega arith ]

within-starts : (m : List ℕ) (terms : List Term) → IsPoly terms → StartsBelow m terms → IsWithin (length m) terms
unfolding IsWithin
within-starts m [] poly starts = tt
within-starts m (term ∷ rest) poly starts = (
  above-degree m term.monomial starts,
  within-more (length term.monomial) (length m) rest (above-degree m term.monomial starts) (within-starts term.monomial rest poly.3 poly.2),
)

within-degree : (terms : List Term) → IsPoly terms → IsWithin (degree terms) terms
unfolding IsWithin
within-degree [] poly = tt
within-degree (term ∷ rest) poly = (omega arith, within-starts term.monomial rest poly.3 poly.2)

-- ---- refusals
-- a refusal that is made of an answer
pub refused : {A B : Type 0} → (f : A → Result B PolyRefusal) (r : Result A PolyRefusal) (e : PolyRefusal) → and_then f r ≡ Err e
    → (r ≡ Err e) ⊎ ((a : A) × (r ≡ Ok a) × (f a ≡ Err e))
refused f (Ok a) e h = inr (a, refl, h)
refused f (Err x) e h = inl (ap (λ (x : PolyRefusal). Err x) (same_Err (and_then f (Err x)) x e refl h))

front-refused : (z : ℤ) (m : List ℕ) (rest : List Term) (e : PolyRefusal) → front z m rest ≡ Err e → e ≡ Overflow
front-refused z m rest e h = elim (refused (λ number. Ok (in_front number m rest)) (fit_or_refuse z) e h) [
  | inl over ↦ fit_refuses z e over
  | inr made ↦ absurd (ok-err (Ok (in_front made.0 m rest)) (in_front made.0 m rest) e refl made.2)
]

pub more-refused : (z : ℤ) (m : List ℕ) (terms : List Term) (e : PolyRefusal) → with_more z m terms ≡ Err e → e ≡ Overflow
more-refused z m [] e h = front-refused z m [] e (sym (more-nil z m) ∙ h)
more-refused z m (x ∷ xs) e h = at_place (place x.monomial m) refl (more-refused z m xs e)
  where
    at_place : (p : Place) → place x.monomial m ≡ p → (with_more z m xs ≡ Err e → e ≡ Overflow) → e ≡ Overflow
    at_place Above above later = elim (refused (λ terms. Ok ((x ∷ []) ++ terms)) (with_more z m xs) e (sym (more-above z m x xs above) ∙ h)) [
      | inl rest ↦ later rest
      | inr made ↦ absurd (ok-err (Ok ((x ∷ []) ++ made.0)) ((x ∷ []) ++ made.0) e refl made.2)
    ]
    at_place Same same later = front-refused (x.coefficient +ℤ z) m xs e (sym (more-same z m x xs same) ∙ h)
    at_place Below below later = front-refused z m (x ∷ xs) e (sym (more-below z m x xs below) ∙ h)

pub multiple-refuses : (minus : Bool) (c : ℤ) (m : List ℕ) (b : Term) (terms : List Term) (e : PolyRefusal)
    → with_multiple minus c m b terms ≡ Err e → e ≡ Overflow
multiple-refuses minus c m b terms e h =
    elim (refused (λ number. with_more (signed minus number) (product m b.monomial) terms) (fit_or_refuse (c *ℤ b.coefficient)) e
    (sym (multiple-is minus c m b terms) ∙ h)) [
      | inl over ↦ fit_refuses (c *ℤ b.coefficient) e over
      | inr made ↦ more-refused (signed minus made.0) (product m b.monomial) terms e made.2
    ]

products-refuse : (q : Term) (most : ℕ) (bs terms : List Term) (e : PolyRefusal) → length q.monomial + most ≤ 16 → IsWithin most bs
    → with_products q bs terms ≡ Err e → e ≡ Overflow
unfolding IsWithin
products-refuse q most [] terms e low within h = absurd (ok-err (with_products q [] terms) terms e (products-nil q terms) h)
products-refuse q most (b ∷ bs) terms e low within h =
    elim (refused (with_products q bs) (with_product q b terms) e (sym (products-cons q b bs terms) ∙ h)) [
      | inl over ↦
          let size = within.0 in
          multiple-refuses false q.coefficient q.monomial b terms e
          (sym (product-within q b terms (le-ltb 16 (length q.monomial + length b.monomial) (omega arith))) ∙ over)
      | inr made ↦ products-refuse q most bs made.0 e low within.1 made.2
    ]

all-refuse : (first most : ℕ) (qs bs terms : List Term) (e : PolyRefusal) → first + most ≤ 16 → IsWithin first qs → IsWithin most bs
    → with_all_products qs bs terms ≡ Err e → e ≡ Overflow
unfolding IsWithin
all-refuse first most [] bs terms e low left right h = absurd (ok-err (with_all_products [] bs terms) terms e (all-nil bs terms) h)
all-refuse first most (q ∷ qs) bs terms e low left right h =
    elim (refused (with_all_products qs bs) (with_products q bs terms) e (sym (all-cons q qs bs terms) ∙ h)) [
      | inl over ↦ let size = left.0 in products-refuse q most bs terms e (omega arith) right over
      | inr made ↦ all-refuse first most qs bs made.0 e low left.1 right made.2
    ]

overflow-not_degree : Degree ≡ Overflow → ⊥
overflow-not_degree e = cc

pub never-degree : (a b terms : List Term) → IsPoly a → IsPoly b → is_over (degree a + degree b) ≡ false
    → with_all_products a b terms ≡ Err Degree → ⊥
never-degree a b terms left right low h =
    let small = ltb-false 16 (degree a + degree b) low in
    overflow-not_degree (all-refuse (degree a) (degree b) a b terms Degree (omega arith) (within-degree a left) (within-degree b right) h)
