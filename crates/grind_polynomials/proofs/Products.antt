-- How products of terms are added in turn, step by step.
use Rattle.std.proofs.Common.{◌≡◌, ℕ, ◌+◌, Bool, true, false, List, [], ◌∷◌, length, ℤ, ◌*ℤ◌, Result, Ok, Err, arith, sym, ap, ◌∙◌, refl}
use Rattle.std.proofs.lemmas.Bool.{cond-true, cond-false}
use Rattle.grind_monomials.specs.Monomials.{product}
use Rattle.grind_polynomials.specs.declared.poly.Term.{Term}
use Rattle.grind_polynomials.specs.declared.poly.PolyRefusal.{PolyRefusal}
use Rattle.grind_polynomials.specs.declared.poly.PolyRefusal.TheVariants.{Degree}
use Rattle.grind_polynomials.specs.Polynomials.{is_over, fit_or_refuse}
use Rattle.grind_polynomials.specs.Sums.{and_then, signed, with_more, with_multiple, with_multiples, with_product, with_products, with_all_products}

-- ---- a multiple of a term
module _ (minus : Bool) (c : ℤ) (m : List ℕ) (b : Term) (terms : List Term) where
  pub multiple-is : with_multiple minus c m b terms
      ≡ and_then (λ number. with_more (signed minus number) (product m b.monomial) terms) (fit_or_refuse (c *ℤ b.coefficient))
  unfolding with_multiple
  multiple-is = refl

  pub multiple-refused : (e : PolyRefusal) → fit_or_refuse (c *ℤ b.coefficient) ≡ Err e → with_multiple minus c m b terms ≡ Err e
  multiple-refused e over =
      multiple-is ∙ ap (and_then (λ number. with_more (signed minus number) (product m b.monomial) terms)) over

  pub multiple-goes_on : (number : ℤ) (whole : List ℕ) → fit_or_refuse (c *ℤ b.coefficient) ≡ Ok number → whole ≡ product m b.monomial
      → with_multiple minus c m b terms ≡ with_more (signed minus number) whole terms
  multiple-goes_on number whole fits is =
      multiple-is
      ∙ ap (and_then (λ number. with_more (signed minus number) (product m b.monomial) terms)) fits
      ∙ ap (λ (monomial : List ℕ). with_more (signed minus number) monomial terms) (sym is)

pub multiples-nil : (minus : Bool) (c : ℤ) (m : List ℕ) (terms : List Term) → with_multiples minus c m [] terms ≡ Ok terms
unfolding with_multiples
multiples-nil minus c m terms = refl

pub multiples-cons : (minus : Bool) (c : ℤ) (m : List ℕ) (b : Term) (bs terms : List Term) → with_multiples minus c m (b ∷ bs) terms
    ≡ and_then (with_multiples minus c m bs) (with_multiple minus c m b terms)
unfolding with_multiples
multiples-cons minus c m b bs terms = refl

module _ (minus : Bool) (c : ℤ) (m : List ℕ) (whole : Result (List Term) PolyRefusal) (rest : List Term) (b : Term) (bs all : List Term)
    (rest_is : rest ≡ b ∷ bs) (so_far : with_multiples minus c m rest all ≡ whole) where
  multiples_opened : and_then (with_multiples minus c m bs) (with_multiple minus c m b all) ≡ whole
  multiples_opened =
      sym (multiples-cons minus c m b bs all) ∙ ap (λ (terms : List Term). with_multiples minus c m terms all) (sym rest_is) ∙ so_far

  pub multiples_step : (new : List Term) → with_multiple minus c m b all ≡ Ok new → with_multiples minus c m bs new ≡ whole
  multiples_step new e = sym (ap (and_then (with_multiples minus c m bs)) e) ∙ multiples_opened

  pub multiples_fail : (e : PolyRefusal) → with_multiple minus c m b all ≡ Err e → whole ≡ Err e
  multiples_fail e f = sym multiples_opened ∙ ap (and_then (with_multiples minus c m bs)) f

pub multiples_end : (minus : Bool) (c : ℤ) (m : List ℕ) (whole : Result (List Term) PolyRefusal) (rest all : List Term) → length rest ≡ 0
    → with_multiples minus c m rest all ≡ whole → whole ≡ Ok all
multiples_end minus c m whole [] all e so_far = sym so_far ∙ multiples-nil minus c m all
multiples_end minus c m whole (b ∷ bs) all e so_far = absurd (omega arith)

-- ---- the product of two terms
module _ (q b : Term) (terms : List Term) where
  pub product-over : is_over (length q.monomial + length b.monomial) ≡ true → with_product q b terms ≡ Err Degree
  unfolding with_product
  product-over e = cond-true (is_over (length q.monomial + length b.monomial)) _ _ e

  pub product-within : is_over (length q.monomial + length b.monomial) ≡ false
      → with_product q b terms ≡ with_multiple false q.coefficient q.monomial b terms
  unfolding with_product
  product-within e = cond-false (is_over (length q.monomial + length b.monomial)) _ _ e

pub products-nil : (q : Term) (terms : List Term) → with_products q [] terms ≡ Ok terms
unfolding with_products
products-nil q terms = refl

pub products-cons : (q b : Term) (bs terms : List Term) → with_products q (b ∷ bs) terms ≡ and_then (with_products q bs) (with_product q b terms)
unfolding with_products
products-cons q b bs terms = refl

module _ (q : Term) (whole : Result (List Term) PolyRefusal) (rest : List Term) (b : Term) (bs all : List Term)
    (rest_is : rest ≡ b ∷ bs) (so_far : with_products q rest all ≡ whole) where
  products_opened : and_then (with_products q bs) (with_product q b all) ≡ whole
  products_opened =
      sym (products-cons q b bs all) ∙ ap (λ (terms : List Term). with_products q terms all) (sym rest_is) ∙ so_far

  pub products_step : (new : List Term) → with_product q b all ≡ Ok new → with_products q bs new ≡ whole
  products_step new e = sym (ap (and_then (with_products q bs)) e) ∙ products_opened

  pub products_fail : (e : PolyRefusal) → with_product q b all ≡ Err e → whole ≡ Err e
  products_fail e f = sym products_opened ∙ ap (and_then (with_products q bs)) f

pub products_end : (q : Term) (whole : Result (List Term) PolyRefusal) (rest all : List Term) → length rest ≡ 0
    → with_products q rest all ≡ whole → whole ≡ Ok all
products_end q whole [] all e so_far = sym so_far ∙ products-nil q all
products_end q whole (b ∷ bs) all e so_far = absurd (omega arith)

pub all-nil : (bs terms : List Term) → with_all_products [] bs terms ≡ Ok terms
unfolding with_all_products
all-nil bs terms = refl

pub all-cons : (q : Term) (qs bs terms : List Term) → with_all_products (q ∷ qs) bs terms
    ≡ and_then (with_all_products qs bs) (with_products q bs terms)
unfolding with_all_products
all-cons q qs bs terms = refl

module _ (bs : List Term) (whole : Result (List Term) PolyRefusal) (rest : List Term) (q : Term) (qs all : List Term)
    (rest_is : rest ≡ q ∷ qs) (so_far : with_all_products rest bs all ≡ whole) where
  all_opened : and_then (with_all_products qs bs) (with_products q bs all) ≡ whole
  all_opened =
      sym (all-cons q qs bs all) ∙ ap (λ (terms : List Term). with_all_products terms bs all) (sym rest_is) ∙ so_far

  pub all_step : (new : List Term) → with_products q bs all ≡ Ok new → with_all_products qs bs new ≡ whole
  all_step new e = sym (ap (and_then (with_all_products qs bs)) e) ∙ all_opened

  pub all_fail : (e : PolyRefusal) → with_products q bs all ≡ Err e → whole ≡ Err e
  all_fail e f = sym all_opened ∙ ap (and_then (with_all_products qs bs)) f

pub all_end : (bs : List Term) (whole : Result (List Term) PolyRefusal) (rest all : List Term) → length rest ≡ 0
    → with_all_products rest bs all ≡ whole → whole ≡ Ok all
all_end bs whole [] all e so_far = sym so_far ∙ all-nil bs all
all_end bs whole (q ∷ qs) all e so_far = absurd (omega arith)
