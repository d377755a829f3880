-- Quotients and remainders of whole numbers.
use Rattle.std.proofs.Common.{◌≡◌, ◌↔◌, ◌<◌, ℤ, pos, ◌+ℤ◌, ◌*ℤ◌, neg_ℤ, ◌≤ℤ◌, ◌<ℤ◌, int_div, int_rem, unsigned_abs, arith, ap}
use Rattle.std.proofs.lemmas.Int.{quot-rem, rem_below}
use borrow.Author.Differences.{ints, abs_is}
use Rattle.grind_lemmas.specs.Rounding.{IsCeil}
use Rattle.grind_lemmas.specs.Division.{IsMultiple}
use Rattle.grind_lemmas.proofs.Rings.{linear, int_mul-add, int_mul-neg, int_mul-comm}
use Rattle.grind_lemmas.proofs.Orders.{int_mul-below, int_mul-le}

module _ (c d : ℤ) (positive : pos 0 <ℤ d) where
  -- the number is the divisor times the quotient, and the remainder
  parts : d *ℤ int_div c d +ℤ int_rem c d ≡ c
  parts = let e = quot-rem c d in let f = int_mul-comm d (int_div c d) in omega (arith, linear)

  -- the remainder is nearer to 0 than the divisor
  near : (int_rem c d <ℤ d) × (neg_ℤ d <ℤ int_rem c d)
  near =
      let size : 0 < unsigned_abs d = omega (arith, linear, abs_is) in
      let below = rem_below c d size in (omega (arith, linear, abs_is), omega (arith, linear, abs_is))

  -- a multiple of the divisor leaves nothing
  multiple_leaves : IsMultiple c d → int_rem c d ≡ pos 0
  multiple_leaves (q, e) =
      let whole = parts in
      let size = near in
      let rest = int_rem c d in
      let above = int_mul-add d q (neg_ℤ (int_div c d)) in
      let sign = int_mul-neg d (int_div c d) in
      let below = int_mul-add d (int_div c d) (neg_ℤ q) in
      let other_sign = int_mul-neg d q in
      let one = int_mul-below d (q +ℤ neg_ℤ (int_div c d)) positive (omega (arith, linear)) in
      let two = int_mul-below d (int_div c d +ℤ neg_ℤ q) positive (omega (arith, linear)) in
      let same : q ≡ int_div c d = omega (arith, linear) in
      let products : d *ℤ q ≡ d *ℤ int_div c d = ap (λ (x : ℤ). d *ℤ x) same in omega (arith, linear)

  -- what leaves nothing is a multiple
  nothing_left : int_rem c d ≡ pos 0 → c ≡ d *ℤ int_div c d
  nothing_left e = let whole = parts in omega (arith, linear)

  -- where the remainder is not positive, the quotient is rounded up
  quotient_is_ceil : int_rem c d ≤ℤ pos 0 → IsCeil c d (int_div c d)
  quotient_is_ceil h =
      let whole = parts in
      let size = near in record { above = omega (arith, linear); least = omega (arith, linear) }

  -- where it is positive, the next number is
  next_is_ceil : pos 0 <ℤ int_rem c d → IsCeil c d (int_div c d +ℤ pos 1)
  next_is_ceil h =
      let whole = parts in
      let size = near in
      let sum = int_mul-add d (int_div c d) (pos 1) in
      let unit : d *ℤ pos 1 ≡ d = omega (arith, ints) in record { above = omega (arith, linear); least = omega (arith, linear) }

  -- a quotient that is rounded up stays below a bound that is not negative and not below the number
  ceil_below : (q bound : ℤ) → IsCeil c d q → c ≤ℤ bound → pos 0 ≤ℤ bound → q ≤ℤ bound
  ceil_below q bound rounded h k =
      let low = rounded.least in
      let least : pos 1 ≤ℤ d = omega (arith, linear) in
      let more = int_mul-le bound (pos 1) d k least in
      let unit : bound *ℤ pos 1 ≡ bound = omega (arith, ints) in
      let turned = int_mul-comm bound d in
      let sum = int_mul-add d q (neg_ℤ bound) in
      let sign = int_mul-neg d bound in
      let apart = int_mul-below d (q +ℤ neg_ℤ bound) positive (omega (arith, linear)) in omega (arith, linear)

pub multiples-divide : (c d : ℤ) → pos 0 <ℤ d → IsMultiple c d → c ≡ d *ℤ int_div c d
multiples-divide c d p h = nothing_left c d p (multiple_leaves c d p h)

pub multiples-leave_nothing : (c d : ℤ) → pos 0 <ℤ d → (int_rem c d ≡ pos 0) ↔ IsMultiple c d
multiples-leave_nothing c d p = (λ e. (int_div c d, nothing_left c d p e), λ h. multiple_leaves c d p h)

pub quotients-round_up : (c d : ℤ) → pos 0 <ℤ d → int_rem c d ≤ℤ pos 0 → IsCeil c d (int_div c d)
quotients-round_up c d p h = quotient_is_ceil c d p h

pub next_quotients-round_up : (c d : ℤ) → pos 0 <ℤ d → pos 0 <ℤ int_rem c d → IsCeil c d (int_div c d +ℤ pos 1)
next_quotients-round_up c d p h = next_is_ceil c d p h

pub ceilings-stay_below : (c d q bound : ℤ) → pos 0 <ℤ d → IsCeil c d q → c ≤ℤ bound → pos 0 ≤ℤ bound → q ≤ℤ bound
ceilings-stay_below c d q bound p h = ceil_below c d p q bound h
