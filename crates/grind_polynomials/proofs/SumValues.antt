-- The value of what products are added to.
use Rattle.std.proofs.Common.{◌≡◌, ℕ, zero, suc, Bool, true, false, List, [], ◌∷◌, ℤ, pos, negsuc, ◌+ℤ◌, ◌*ℤ◌, Ok, arith, sym, ap, ◌∙◌, refl}
use lib.IntN.{zero-*ℤ, *ℤ-zero, +ℤ_idl}
use borrow.Author.Differences.{ints}
use Rattle.grind_lemmas.proofs.Rings.{linear, int_mul-comm, int_mul-assoc, int_mul-add, int_add-mul, int_neg-mul}
use Rattle.grind_monomials.specs.declared.order.Place.{Place}
use Rattle.grind_monomials.specs.declared.order.Place.TheVariants.{Above, Same, Below}
use Rattle.grind_monomials.specs.Order.{place}
use Rattle.grind_monomials.specs.Monomials.{product}
use Rattle.grind_monomials.specs.Counts.{monomial_value}
use Rattle.grind_monomials.proofs.Orders.{place-same}
use Rattle.grind_monomials.proofs.ValueLemmas.{value-product as value-monomials}
use Rattle.grind_polynomials.specs.declared.poly.Term.{Term}
use Rattle.grind_polynomials.specs.Sums.{signed, in_front, front, and_then, with_more, with_multiple, with_multiples, with_product, with_products, with_all_products}
use Rattle.grind_polynomials.specs.Values.{poly_value}
use Rattle.grind_polynomials.proofs.Fits.{fit_is, same_Ok}
use Rattle.grind_polynomials.proofs.Putting.{more-nil, more-above, more-same, more-below}
use Rattle.grind_polynomials.proofs.Products.{multiples-nil, multiples-cons, products-nil, products-cons, all-nil, all-cons}
use Rattle.grind_polynomials.proofs.Falling.{made_of, front-made, behind-made, multiple-made, product-made}

exchange : (a b c d : ℤ) → (a *ℤ b) *ℤ (c *ℤ d) ≡ (a *ℤ c) *ℤ (b *ℤ d)
exchange a b c d =
    int_mul-assoc a b (c *ℤ d)
    ∙ ap (λ (z : ℤ). a *ℤ z) (sym (int_mul-assoc b c d) ∙ ap (λ (z : ℤ). z *ℤ d) (int_mul-comm b c) ∙ int_mul-assoc c b d)
    ∙ sym (int_mul-assoc a c (b *ℤ d))

pub signed-mul : (minus : Bool) (a b : ℤ) → signed minus a *ℤ b ≡ signed minus (a *ℤ b)
signed-mul false a b = refl
signed-mul true a b = int_neg-mul a b

signed-add : (minus : Bool) (a b : ℤ) → signed minus (a +ℤ b) ≡ signed minus a +ℤ signed minus b
signed-add false a b = refl
signed-add true a b = omega (arith, ints)

signed-zero : (minus : Bool) (a : ℤ) → a +ℤ signed minus (pos 0) ≡ a
signed-zero false a = omega (arith, ints)
signed-zero true a = omega (arith, ints)

module _ (v : ℕ → ℤ) where
  pub value-in_front : (c : ℤ) (m : List ℕ) (rest : List Term)
      → poly_value v (in_front c m rest) ≡ c *ℤ monomial_value v m +ℤ poly_value v rest
  value-in_front (pos zero) m rest =
      sym (ap (λ (z : ℤ). z +ℤ poly_value v rest) (zero-*ℤ (monomial_value v m)) ∙ +ℤ_idl (poly_value v rest))
  value-in_front (pos (suc n)) m rest = refl
  value-in_front (negsuc n) m rest = refl

  value-front : (z : ℤ) (m : List ℕ) (rest all : List Term) → front z m rest ≡ Ok all
      → poly_value v all ≡ z *ℤ monomial_value v m +ℤ poly_value v rest
  value-front z m rest all e =
      let w = front-made z m rest all e in
      ap (poly_value v) (sym w.2) ∙ value-in_front w.0 m rest
      ∙ ap (λ (c : ℤ). c *ℤ monomial_value v m +ℤ poly_value v rest) (fit_is z w.0 w.1)

  pub value-more : (z : ℤ) (m : List ℕ) (terms all : List Term) → with_more z m terms ≡ Ok all
      → poly_value v all ≡ poly_value v terms +ℤ z *ℤ monomial_value v m
  value-more z m [] all e =
      let made = value-front z m [] all (sym (more-nil z m) ∙ e) in omega (arith, linear)
  value-more z m (x ∷ xs) all e = at_place (place x.monomial m) refl (λ later is. value-more z m xs later is)
    where
      at_place : (p : Place) → place x.monomial m ≡ p
          → ((later : List Term) → with_more z m xs ≡ Ok later → poly_value v later ≡ poly_value v xs +ℤ z *ℤ monomial_value v m)
          → poly_value v all ≡ poly_value v (x ∷ xs) +ℤ z *ℤ monomial_value v m
      at_place Above above later =
          let w = behind-made (x ∷ []) (with_more z m xs) all (sym (more-above z m x xs above) ∙ e) in
          let made : poly_value v all ≡ x.coefficient *ℤ monomial_value v x.monomial +ℤ poly_value v w.0 = ap (poly_value v) (sym w.2) in
          let rest = later w.0 w.1 in omega (arith, linear)
      at_place Same same later =
          let made = value-front (x.coefficient +ℤ z) m xs all (sym (more-same z m x xs same) ∙ e) in
          let sum = int_add-mul x.coefficient z (monomial_value v m) in
          let one = ap (λ (n : List ℕ). x.coefficient *ℤ monomial_value v n) (place-same x.monomial m same) in omega (arith, linear)
      at_place Below below later =
          let made = value-front z m (x ∷ xs) all (sym (more-below z m x xs below) ∙ e) in omega (arith, linear)

  pub value-multiple : (minus : Bool) (c : ℤ) (m : List ℕ) (b : Term) (terms all : List Term) → with_multiple minus c m b terms ≡ Ok all
      → poly_value v all ≡ poly_value v terms
      +ℤ signed minus ((c *ℤ monomial_value v m) *ℤ (b.coefficient *ℤ monomial_value v b.monomial))
  value-multiple minus c m b terms all e =
      let w = multiple-made minus c m b terms all e in
      value-more (signed minus w.0) (product m b.monomial) terms all w.2
      ∙ ap (λ (z : ℤ). poly_value v terms +ℤ z)
      (signed-mul minus w.0 (monomial_value v (product m b.monomial))
      ∙ ap (signed minus)
      ((λ i. fit_is (c *ℤ b.coefficient) w.0 w.1 i *ℤ value-monomials v m b.monomial i)
      ∙ exchange c b.coefficient (monomial_value v m) (monomial_value v b.monomial)))

  pub value-multiples : (minus : Bool) (c : ℤ) (m : List ℕ) (bs terms all : List Term) → with_multiples minus c m bs terms ≡ Ok all
      → poly_value v all ≡ poly_value v terms +ℤ signed minus ((c *ℤ monomial_value v m) *ℤ poly_value v bs)
  value-multiples minus c m [] terms all e =
      ap (poly_value v) (sym (same_Ok (with_multiples minus c m [] terms) terms all (multiples-nil minus c m terms) e))
      ∙ sym (ap (λ (z : ℤ). poly_value v terms +ℤ signed minus z) (*ℤ-zero (c *ℤ monomial_value v m)) ∙ signed-zero minus (poly_value v terms))
  value-multiples minus c m (b ∷ bs) terms all e =
      let w = made_of (with_multiples minus c m bs) (with_multiple minus c m b terms) all (sym (multiples-cons minus c m b bs terms) ∙ e) in
      let one = value-multiple minus c m b terms w.0 w.1 in
      let rest = value-multiples minus c m bs w.0 all w.2 in
      let k = c *ℤ monomial_value v m in
      let sum = ap (signed minus) (int_mul-add k (b.coefficient *ℤ monomial_value v b.monomial) (poly_value v bs))
      ∙ signed-add minus (k *ℤ (b.coefficient *ℤ monomial_value v b.monomial)) (k *ℤ poly_value v bs) in
      added (poly_value v all) (poly_value v terms) (poly_value v w.0) _ _ _ one rest sum
    where
      added : (all terms middle x y z : ℤ) → middle ≡ terms +ℤ x → all ≡ middle +ℤ y → z ≡ x +ℤ y → all ≡ terms +ℤ z
      added all terms middle x y z e f g = omega (arith, ints)

  value-products : (q : Term) (bs terms all : List Term) → with_products q bs terms ≡ Ok all
      → poly_value v all ≡ poly_value v terms +ℤ (q.coefficient *ℤ monomial_value v q.monomial) *ℤ poly_value v bs
  value-products q bs terms all e =
      value-multiples false q.coefficient q.monomial bs terms all (untested q bs terms all e)
    where
      untested : (q : Term) (bs terms all : List Term) → with_products q bs terms ≡ Ok all
          → with_multiples false q.coefficient q.monomial bs terms ≡ Ok all
      untested q [] terms all e = multiples-nil false q.coefficient q.monomial terms ∙ sym (products-nil q terms) ∙ e
      untested q (b ∷ bs) terms all e =
          let w = made_of (with_products q bs) (with_product q b terms) all (sym (products-cons q b bs terms) ∙ e) in
          multiples-cons false q.coefficient q.monomial b bs terms
          ∙ ap (and_then (with_multiples false q.coefficient q.monomial bs)) (product-made q b terms w.0 w.1)
          ∙ untested q bs w.0 all w.2

  pub value-all_products : (qs bs terms all : List Term) → with_all_products qs bs terms ≡ Ok all
      → poly_value v all ≡ poly_value v terms +ℤ poly_value v qs *ℤ poly_value v bs
  value-all_products [] bs terms all e =
      ap (poly_value v) (sym (same_Ok (with_all_products [] bs terms) terms all (all-nil bs terms) e))
      ∙ sym (ap (λ (z : ℤ). poly_value v terms +ℤ z) (zero-*ℤ (poly_value v bs)) ∙ signed-zero false (poly_value v terms))
  value-all_products (q ∷ qs) bs terms all e =
      let w = made_of (with_all_products qs bs) (with_products q bs terms) all (sym (all-cons q qs bs terms) ∙ e) in
      let one = value-products q bs terms w.0 w.1 in
      let rest = value-all_products qs bs w.0 all w.2 in
      let sum = int_add-mul (q.coefficient *ℤ monomial_value v q.monomial) (poly_value v qs) (poly_value v bs) in
      omega (arith, linear)
