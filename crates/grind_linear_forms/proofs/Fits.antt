-- Numbers that fit in 128 bits.
use Rattle.std.proofs.Common.{◌≡◌, ◌↔◌, ℕ, suc, ◌-◌, ◌^◌, Bool, true, false, cond, ltb, ℤ, pos, negsuc, ◌+ℤ◌, ◌*ℤ◌, FitsSigned, Option, Some, None, SomeIff, IsTrue, nat_eq, arith, sym, ap, ◌∙◌, refl}
use Rattle.std.specs.Option.{option_and_then}
use Rattle.std.specs.Int.{w128, cast_unsigned}
use Rattle.std.proofs.lemmas.Bool.{cond-true, cond-false, lt-ltb, ltb-true, false_from_ne_true, eqb-true, eq-eqb}
use Rattle.std.proofs.lemmas.Option.{none-some, same_Some}
use Rattle.grind_linear_forms.specs.Forms.{fit}
use Rattle.grind_linear_forms.specs.Sums.{multiple, combination}

-- a number that fits is answered
pub fit_in : (z : ℤ) → FitsSigned w128 z → fit z ≡ Some z
unfolding fit
fit_in (pos n) f = cond-true (ltb n (2 ^ 127)) (Some (pos n)) None (lt-ltb n (2 ^ 127) f.sfits)
fit_in (negsuc n) f = cond-true (ltb n (2 ^ 127)) (Some (negsuc n)) None (lt-ltb n (2 ^ 127) f.sfits)

-- and no other
pub fit_out : (z : ℤ) → (FitsSigned w128 z → ⊥) → fit z ≡ None
unfolding fit
fit_out (pos n) f = cond-false (ltb n (2 ^ 127)) (Some (pos n)) None
    (false_from_ne_true (ltb n (2 ^ 127)) (λ e. f (record { sfits = ltb-true n (2 ^ 127) e })))
fit_out (negsuc n) f = cond-false (ltb n (2 ^ 127)) (Some (negsuc n)) None
    (false_from_ne_true (ltb n (2 ^ 127)) (λ e. f (record { sfits = ltb-true n (2 ^ 127) e })))

answered : (b : Bool) (z y : ℤ) → cond b (Some z) None ≡ Some y → y ≡ z
answered true z y e = sym (same_Some z y e)
answered false z y e = absurd (none-some y e)

-- what is answered is the number
pub fit_is : (z y : ℤ) → fit z ≡ Some y → y ≡ z
unfolding fit
fit_is (pos n) y e = answered (ltb n (2 ^ 127)) (pos n) y e
fit_is (negsuc n) y e = answered (ltb n (2 ^ 127)) (negsuc n) y e

-- a checked operation answers as `fit` says
pub fit_from : (r : Option ℤ) (z : ℤ) → SomeIff r (FitsSigned w128 z) z → r ≡ fit z
fit_from None z h = sym (fit_out z h)
fit_from (Some x) z h = ap (λ (y : ℤ). Some y) h.1 ∙ sym (fit_in z h.0)

pub multiple_from : (r : Option ℤ) (m x : ℤ) → SomeIff r (FitsSigned w128 (m *ℤ x)) (m *ℤ x) → r ≡ multiple m x
unfolding multiple
multiple_from r m x h = fit_from r (m *ℤ x) h

pub multiple_is : (m x y : ℤ) → multiple m x ≡ Some y → y ≡ m *ℤ x
unfolding multiple
multiple_is m x y e = fit_is (m *ℤ x) y e

-- two products that are there, and a checked sum of them
pub combination_from : (r : Option ℤ) (m x k y p q : ℤ) → multiple m x ≡ Some p → multiple k y ≡ Some q
    → SomeIff r (FitsSigned w128 (p +ℤ q)) (p +ℤ q) → r ≡ combination m x k y
unfolding combination
combination_from r m x k y p q e f h = rw (e, f) (fit_from r (p +ℤ q) h)

-- where the first product does not fit there is no combination
pub combination_left : (m x k y : ℤ) → multiple m x ≡ None → combination m x k y ≡ None
unfolding combination
combination_left m x k y e = rw e

-- nor where the second does not
pub combination_right : (m x k y p : ℤ) → multiple m x ≡ Some p → multiple k y ≡ None → combination m x k y ≡ None
unfolding combination
combination_right m x k y p e f = rw (e, f)

-- a combination is the sum of the products
pub combination_is : (m x k y z : ℤ) → combination m x k y ≡ Some z → z ≡ m *ℤ x +ℤ k *ℤ y
unfolding combination
combination_is m x k y z e = parts (multiple m x) (multiple k y) refl refl e
  where
    parts : (first second : Option ℤ) → multiple m x ≡ first → multiple k y ≡ second
        → option_and_then (λ p. option_and_then (λ q. fit (p +ℤ q)) second) first ≡ Some z → z ≡ m *ℤ x +ℤ k *ℤ y
    parts None second f g e = absurd (none-some z e)
    parts (Some p) None f g e = absurd (none-some z e)
    parts (Some p) (Some q) f g e =
        fit_is (p +ℤ q) z e ∙ ap (λ (s : ℤ). s +ℤ q) (multiple_is m x p f) ∙ ap (λ (s : ℤ). m *ℤ x +ℤ s) (multiple_is k y q g)

-- only the number 0 has no bit
pub no_bits : (z : ℤ) → FitsSigned w128 z → IsTrue (nat_eq (cast_unsigned w128 z) 0) ↔ (z ≡ pos 0)
no_bits (pos n) f = (λ e. ap pos (eqb-true n 0 e), λ e. eq-eqb n 0 (positive n e))
  where
    positive : (n : ℕ) → pos n ≡ pos 0 → n ≡ 0
    positive n e = cc
no_bits (negsuc n) f = (
  λ e. let size = f.sfits in absurd (omega (arith, eqb-true (2 ^ 128 - suc n) 0 e)),
  λ e. absurd cc,
)
