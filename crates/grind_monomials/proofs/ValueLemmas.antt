-- The value of a product of monomials.
use Rattle.std.proofs.Common.{◌≡◌, inl, inr, ℕ, ◌≤◌, List, [], ◌∷◌, ℤ, pos, ◌*ℤ◌, arith, sym, ap, ◌∙◌}
use Rattle.std.proofs.lemmas.Bool.{cases_order}
use borrow.Author.Differences.{ints}
use Rattle.grind_lemmas.proofs.Rings.{int_mul-comm, int_mul-assoc}
use Rattle.grind_monomials.specs.Monomials.{product}
use Rattle.grind_monomials.specs.Counts.{monomial_value}
use Rattle.grind_monomials.proofs.Clauses.{product-nil, product-left, product-more, product-less}

pub unit_left : (a : ℤ) → pos 1 *ℤ a ≡ a
unit_left a = omega (arith, ints)

pub unit_right : (a : ℤ) → a *ℤ pos 1 ≡ a
unit_right a = int_mul-comm a (pos 1) ∙ unit_left a

moved : (a b c d : ℤ) → a ≡ b *ℤ c → d *ℤ a ≡ b *ℤ (d *ℤ c)
moved a b c d e =
    ap (λ (z : ℤ). d *ℤ z) e ∙ sym (int_mul-assoc d b c) ∙ ap (λ (z : ℤ). z *ℤ c) (int_mul-comm d b) ∙ int_mul-assoc b d c

module _ (v : ℕ → ℤ) where
  module _ (x : ℕ) (xs : List ℕ)
      (below : (ys : List ℕ) → monomial_value v (product xs ys) ≡ monomial_value v xs *ℤ monomial_value v ys) where
    value-product_from : (ys : List ℕ) → monomial_value v (product (x ∷ xs) ys) ≡ monomial_value v (x ∷ xs) *ℤ monomial_value v ys
    value-product_from [] = ap (monomial_value v) (product-left (x ∷ xs)) ∙ sym (unit_right (monomial_value v (x ∷ xs)))
    value-product_from (y ∷ ys) = elim (cases_order y x) [
      | inl is ↦ at_less (omega arith)
      | inr (inl h) ↦
          ap (monomial_value v) (product-more x y xs ys h)
          ∙ moved (monomial_value v (product (x ∷ xs) ys)) (monomial_value v (x ∷ xs)) (monomial_value v ys) (v y) (value-product_from ys)
      | inr (inr h) ↦ at_less (omega arith)
    ]
      where
        at_less : x ≤ y → monomial_value v (product (x ∷ xs) (y ∷ ys)) ≡ monomial_value v (x ∷ xs) *ℤ monomial_value v (y ∷ ys)
        at_less h =
            ap (monomial_value v) (product-less x y xs ys h) ∙ ap (λ (z : ℤ). v x *ℤ z) (below (y ∷ ys))
            ∙ sym (int_mul-assoc (v x) (monomial_value v xs) (monomial_value v (y ∷ ys)))

  pub value-product : (xs ys : List ℕ) → monomial_value v (product xs ys) ≡ monomial_value v xs *ℤ monomial_value v ys
  value-product [] ys = ap (monomial_value v) (product-nil ys) ∙ sym (unit_left (monomial_value v ys))
  value-product (x ∷ xs) ys = value-product_from x xs (value-product xs) ys
