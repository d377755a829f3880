-- Common divisors, and the numbers that are divided by them.
use Rattle.std.proofs.Common.{◌≡◌, ◌≢◌, ℕ, zero, suc, ◌*◌, ◌/◌, ◌<◌, Bool, true, false, ℤ, pos, negsuc, ◌*ℤ◌, unsigned_abs, arith, sym, ap, ◌∙◌, refl}
use Rattle.std.specs.Int.{IsGcd, ◌∣◌}
use Rattle.std.proofs.Math.Nat.{eq-zero_of_zero-dvd, div-mul_cancel}
use borrow.Author.Differences.{ints}
use Rattle.grind_lemmas.proofs.Rings.{int_mul-neg}
use Rattle.grind_polynomials.specs.Sums.{signed}
use Rattle.grind_normal_forms.specs.Pairs.{divided_by}
use Rattle.grind_normal_forms.specs.Reduction.{is_negative}
use Rattle.grind_polynomials.proofs.SumValues.{signed-mul}

-- a common divisor of a number that is not 0 is positive
pub gcd-positive : (a b h : ℕ) → IsGcd a b h → (a ≡ 0 → ⊥) → 0 < h
gcd-positive a b zero gcd some = absurd (some (eq-zero_of_zero-dvd gcd.0))
gcd-positive a b (suc h) gcd some = omega arith

pub size-nonzero : (z : ℤ) → z ≢ pos 0 → unsigned_abs z ≡ 0 → ⊥
size-nonzero (pos n) some e = some (ap pos e)
size-nonzero (negsuc n) some e = absurd (omega arith)

-- a divisor of a number that is not 0 divides it into something that is not 0
pub quotient-nonzero : (a h : ℕ) → h ∣ a → (a ≡ 0 → ⊥) → a / h ≡ 0 → ⊥
quotient-nonzero a h divides some e = some (sym (div-mul_cancel h divides) ∙ ap (λ (q : ℕ). q * h) e ∙ omega arith)

-- ---- signs
pub by_sign : (z : ℤ) → z ≡ signed (is_negative z) (pos (unsigned_abs z))
by_sign (pos n) = refl
by_sign (negsuc n) = refl

pub divided-by_sign : (h : ℕ) (z : ℤ) → divided_by h z ≡ signed (is_negative z) (pos (unsigned_abs z / h))
divided-by_sign h (pos n) = refl
divided-by_sign h (negsuc n) = refl

pub mul-signed : (minus : Bool) (a b : ℤ) → a *ℤ signed minus b ≡ signed minus (a *ℤ b)
mul-signed false a b = refl
mul-signed true a b = int_mul-neg a b

signed-twice : (minus : Bool) (a : ℤ) → signed minus (signed minus a) ≡ a
signed-twice false a = refl
signed-twice true a = omega (arith, ints)

signed-swap : (one two : Bool) (a : ℤ) → signed one (signed two a) ≡ signed two (signed one a)
signed-swap false two a = refl
signed-swap true false a = refl
signed-swap true true a = refl

naturals : (a b : ℕ) → pos a *ℤ pos b ≡ pos (a * b)
naturals a b = omega (arith, ints)

crossed : (a c h p q : ℕ) → p * h ≡ a → q * h ≡ c → pos q *ℤ pos a ≡ pos p *ℤ pos c
crossed a c h p q e f =
    naturals q a ∙ ap (λ (n : ℕ). pos (q * n)) (sym e) ∙ ap pos (turned q p h) ∙ ap (λ (n : ℕ). pos (p * n)) f ∙ sym (naturals p c)
  where
    turned : (q p h : ℕ) → q * (p * h) ≡ p * (q * h)
    turned q p h = grind arith

-- the weight times the leading coefficient is the unit times the coefficient of the term
pub weight-times_lead : (a c : ℤ) (h : ℕ) → h ∣ unsigned_abs a → h ∣ unsigned_abs c
    → signed (is_negative a) (divided_by h c) *ℤ a ≡ pos (unsigned_abs a / h) *ℤ c
weight-times_lead a c h one two =
    let sa = is_negative a in
    let sc = is_negative c in
    let p = unsigned_abs a / h in
    let q = unsigned_abs c / h in
    ap (λ (z : ℤ). signed sa z *ℤ a) (divided-by_sign h c)
    ∙ ap (λ (z : ℤ). signed sa (signed sc (pos q)) *ℤ z) (by_sign a)
    ∙ signed-mul sa (signed sc (pos q)) (signed sa (pos (unsigned_abs a)))
    ∙ ap (signed sa) (mul-signed sa (signed sc (pos q)) (pos (unsigned_abs a)))
    ∙ signed-twice sa (signed sc (pos q) *ℤ pos (unsigned_abs a))
    ∙ signed-mul sc (pos q) (pos (unsigned_abs a))
    ∙ ap (signed sc) (crossed (unsigned_abs a) (unsigned_abs c) h p q (div-mul_cancel h one) (div-mul_cancel h two))
    ∙ sym (mul-signed sc (pos p) (pos (unsigned_abs c)))
    ∙ ap (λ (z : ℤ). pos p *ℤ z) (sym (by_sign c))
