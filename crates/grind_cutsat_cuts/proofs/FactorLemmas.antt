-- The least factors by which two coefficients cancel.
use Rattle.std.proofs.Common.{◌≡◌, ◌≢◌, inl, inr, ℕ, zero, suc, ◌+◌, ◌-◌, ◌*◌, ◌/◌, ◌%◌, ◌<◌, ◌≤◌, ◌^◌, ℤ, pos, negsuc, ◌+ℤ◌, ◌*ℤ◌, ◌≤ℤ◌, ◌<ℤ◌, neg_ℤ, unsigned_abs, FitsSigned, arith, sym, ap, ◌∙◌, refl, subst}
use Rattle.std.specs.Int.{w128, IsGcd, ◌∣◌}
use Rattle.std.proofs.Math.Nat.{mod-lt, dvd-sub, dvd-mul_left, dvd-mul_left_of_dvd, dvd_of_mul-dvd-mul_right, div-mul_cancel, div-add-mod, div-le_self, eq-zero_of_zero-dvd}
use Rattle.std.proofs.lemmas.Nat.Gcd.{le_of_dvd, IsGcd-from_mod, IsGcd-from_zero, same_from_IsGcd}
use borrow.Author.Differences.{ints}
use Rattle.grind_lemmas.proofs.Rings.{linear, int_mul-comm, int_mul-neg}
use Rattle.grind_lemmas.proofs.Orders.{int_mul-cancel}
use Rattle.grind_cutsat_units.specs.Cuts.{AreFactors}
use Rattle.grind_cutsat_cuts.specs.Factors.{IsShare, IsNoShare, AreFittingFactors, NoFittingFactors, HaveUnfitFactors}
use Rattle.grind_cutsat_cuts.proofs.DivisorLemmas.{naturals}

-- ---- what divides multiples of two numbers divides that multiple of their greatest common divisor
left_over : (p a b : ℕ) → p * (a % b) ≡ p * a - (a / b) * (p * b)
left_over p a b = let whole = div-add-mod a b in by_parts p a b (a / b) (a % b) whole
  where
    by_parts : (p a b q r : ℕ) → b * q + r ≡ a → p * r ≡ p * a - q * (p * b)
    by_parts p a b q r whole =
        let times : p * (b * q + r) ≡ p * a = ap (λ (n : ℕ). p * n) whole in
        let opened : p * (b * q + r) ≡ q * (p * b) + p * r = omega arith in omega (arith, opened, times)

-- a greatest common divisor of two numbers, and what divides multiples of it
pub record Common (a b : ℕ) : Type 0 where
  pub divisor : ℕ
  pub is : IsGcd a b divisor
  pub multiples : (d p : ℕ) → d ∣ p * a → d ∣ p * b → d ∣ p * divisor

common_of : (fuel a b : ℕ) → b < fuel → Common a b
common_of zero a b low = absurd (omega arith)
common_of (suc fuel) a zero low = record {
  divisor = a;
  is = IsGcd-from_zero a 0 refl;
  multiples = λ d p one two. one;
}
common_of (suc fuel) a (suc b) low =
    let less : a % suc b < suc b = mod-lt a (omega arith) in
    let it = common_of fuel (suc b) (a % suc b) (omega arith) in record {
      divisor = it.divisor;
      is = IsGcd-from_mod a (suc b) it.divisor it.is;
      multiples = λ d p one two.
          it.multiples d p two (subst (λ (n : ℕ). d ∣ n) (sym (left_over p a (suc b)))
          (dvd-sub d one (dvd-mul_left_of_dvd d two (a / suc b))));
    }

multiples_of : (a b h d p : ℕ) → IsGcd a b h → d ∣ p * a → d ∣ p * b → d ∣ p * h
multiples_of a b h d p gcd one two =
    let it = common_of (suc b) a b (omega arith) in
    subst (λ (n : ℕ). d ∣ p * n) (same_from_IsGcd a b it.divisor h it.is gcd) (it.multiples d p one two)

-- ---- of numbers alone
positive_of : (n : ℕ) → 0 < n → pos 0 <ℤ pos n
positive_of n some = omega (arith, ints)

natural_le : (m n : ℕ) → m ≤ n → pos m ≤ℤ pos n
natural_le m n low = omega (arith, ints)

positive_in : (n : ℕ) → pos 0 <ℤ pos n → 0 < n
positive_in n some = omega (arith, ints)

none_of : (q h b : ℕ) → q * h ≡ b → q ≡ 0 → 0 < b → ⊥
none_of q h b whole none some = let gone : q * h ≡ 0 * h = ap (λ (n : ℕ). n * h) none in omega (arith, whole, gone)

too_great : (n m : ℕ) → 2 ^ 127 ≤ n → n ≤ m → m < 2 ^ 127 → ⊥
too_great n m high low below = omega arith

above_zero : (n : ℕ) → (n ≡ 0 → ⊥) → 0 < n
above_zero zero some = absurd (some refl)
above_zero (suc n) some = omega arith

from_high : (n : ℕ) → 2 ^ 127 ≤ n → 0 < n
from_high n high = omega arith

not_below : (n : ℕ) → 2 ^ 127 ≤ n → n < 2 ^ 127 → ⊥
not_below n high below = omega arith

-- ---- in natural numbers
module _ (a b h : ℕ) (gcd : IsGcd a b h) (some : 0 < a) where
  divisor_some : 0 < h
  divisor_some = at_zero h refl
    where
      at_zero : (k : ℕ) → h ≡ k → 0 < h
      at_zero zero is =
          let none : a ≡ 0 = eq-zero_of_zero-dvd (subst (λ (n : ℕ). n ∣ a) is gcd.0) in absurd (omega arith)
      at_zero (suc k) is = omega arith

  pub least_share : (p q : ℕ) → p * a ≡ q * b → 0 < p → b / h ≤ p
  least_share p q same positive =
      let one : b ∣ p * a = subst (λ (n : ℕ). b ∣ n) (sym same) (dvd-mul_left b q) in
      let whole : b ∣ p * h = multiples_of a b h b p gcd one (dvd-mul_left b p) in
      let parts : (b / h) * h ∣ p * h = subst (λ (n : ℕ). n ∣ p * h) (sym (div-mul_cancel h gcd.1)) whole in
      le_of_dvd positive (dvd_of_mul-dvd-mul_right (b / h) divisor_some parts)

  pub crossed : (b / h) * a ≡ (a / h) * b
  crossed =
      ap (λ (n : ℕ). (b / h) * n) (sym (div-mul_cancel h gcd.0)) ∙ turned (b / h) (a / h) h
      ∙ ap (λ (n : ℕ). (a / h) * n) (div-mul_cancel h gcd.1)
    where
      turned : (p q h : ℕ) → p * (q * h) ≡ q * (p * h)
      turned p q h = grind arith

  pub share_some : 0 < b → b / h ≡ 0 → ⊥
  share_some positive none = none_of (b / h) h b (div-mul_cancel h gcd.1) none positive

-- ---- in whole numbers
balanced : (p q a b : ℕ) → pos p *ℤ pos a +ℤ pos q *ℤ negsuc b ≡ pos 0 → p * a ≡ q * suc b
balanced p q a b zeroed =
    let one = naturals p a in
    let two : pos q *ℤ negsuc b ≡ neg_ℤ (pos q *ℤ pos (suc b)) = int_mul-neg (pos q) (pos (suc b)) in
    let three = naturals q (suc b) in
    let same : pos (p * a) ≡ pos (q * suc b) = omega (arith, linear, one, two, three, zeroed) in natural same
  where
    natural : {m n : ℕ} → pos m ≡ pos n → m ≡ n
    natural e = cc

zeroed_by : (p q a b : ℕ) → p * a ≡ q * suc b → pos p *ℤ pos a +ℤ pos q *ℤ negsuc b ≡ pos 0
zeroed_by p q a b same =
    let one = naturals p a in
    let two : pos q *ℤ negsuc b ≡ neg_ℤ (pos q *ℤ pos (suc b)) = int_mul-neg (pos q) (pos (suc b)) in
    let three = naturals q (suc b) in
    let also : pos (p * a) ≡ pos (q * suc b) = ap pos same in omega (arith, linear, one, two, three, also)

module _ (a b h : ℕ) (gcd : IsGcd a (suc b) h) (some : 0 < a) where
  least_factor : (p q : ℤ) → pos 0 <ℤ p → pos 0 <ℤ q → p *ℤ pos a +ℤ q *ℤ negsuc b ≡ pos 0 → pos (suc b / h) ≤ℤ p
  least_factor (pos p) (pos q) one two zeroed =
      natural_le (suc b / h) p (least_share a (suc b) h gcd some p q (balanced p q a b zeroed) (positive_in p one))
  least_factor (pos p) (negsuc q) one two zeroed = absurd (omega (arith, ints))
  least_factor (negsuc p) q one two zeroed = absurd (omega (arith, ints))

  factors_are : 0 < suc b / h → 0 < a / h → AreFactors (pos a) (negsuc b) (pos (suc b / h)) (pos (a / h))
  factors_are one two = record {
    first = positive_of (suc b / h) one;
    second = positive_of (a / h) two;
    cancel = zeroed_by (suc b / h) (a / h) a b (crossed a (suc b) h gcd some);
    least = least_factor;
  }

  share_of_first : 0 < a / h
  share_of_first = above_zero (a / h) (λ none. none_of (a / h) h a (div-mul_cancel h gcd.0) none some)

  unfit_first : IsNoShare (negsuc b) h → HaveUnfitFactors (pos a) (negsuc b)
  unfit_first (inl none) = absurd (share_some a (suc b) h gcd some (omega arith) none)
  unfit_first (inr high) = (
    pos (suc b / h),
    pos (a / h),
    factors_are (from_high (suc b / h) high) share_of_first,
    inl (λ fits. not_below (suc b / h) high fits.sfits),
  )

  unfit_second : FitsSigned w128 (pos a) → IsNoShare (pos a) h → ⊥
  unfit_second fits (inl none) =
      none_of (a / h) h a (div-mul_cancel h gcd.0) none some
  unfit_second fits (inr high) = too_great (a / h) a high (div-le_self a h) fits.sfits

-- ---- whatever the coefficients
pub factors_by : (over under : ℤ) (h : ℕ) (m k : ℤ) → pos 0 <ℤ over → under <ℤ pos 0 → IsGcd (unsigned_abs over) (unsigned_abs under) h
    → IsShare under h m → IsShare over h k → AreFittingFactors over under m k
factors_by (pos a) (negsuc b) h m k one two gcd first second = (
  subst (λ (z : ℤ). AreFactors (pos a) (negsuc b) z k) (sym first.0)
      (subst (λ (z : ℤ). AreFactors (pos a) (negsuc b) (pos (suc b / h)) z) (sym second.0)
      (factors_are a b h gcd (positive_in a one) first.1 second.1)),
  first.2,
  second.2,
)
factors_by (pos a) (pos b) h m k one two gcd first second = absurd (omega (arith, ints))
factors_by (negsuc a) under h m k one two gcd first second = absurd (omega (arith, ints))

pub no_first : (over under : ℤ) (h : ℕ) → pos 0 <ℤ over → under <ℤ pos 0 → IsGcd (unsigned_abs over) (unsigned_abs under) h
    → IsNoShare under h → HaveUnfitFactors over under
no_first (pos a) (negsuc b) h one two gcd none = unfit_first a b h gcd (positive_in a one) none
no_first (pos a) (pos b) h one two gcd none = absurd (omega (arith, ints))
no_first (negsuc a) under h one two gcd none = absurd (omega (arith, ints))

pub no_second : (over under : ℤ) (h : ℕ) → pos 0 <ℤ over → under <ℤ pos 0 → FitsSigned w128 over
    → IsGcd (unsigned_abs over) (unsigned_abs under) h → IsNoShare over h → HaveUnfitFactors over under
no_second (pos a) (negsuc b) h one two fits gcd none = absurd (unfit_second a b h gcd (positive_in a one) fits none)
no_second (pos a) (pos b) h one two fits gcd none = absurd (omega (arith, ints))
no_second (negsuc a) under h one two fits gcd none = absurd (omega (arith, ints))

-- the divisor of the two is not 0
pub shared_some : (over : ℤ) (a b h : ℕ) → pos 0 <ℤ over → a ≡ unsigned_abs over → IsGcd a b h → 0 < h
shared_some (pos n) a b h positive is gcd = divisor_some a b h gcd (subst (λ (k : ℕ). 0 < k) (sym is) (positive_in n positive))
shared_some (negsuc n) a b h positive is gcd = absurd (omega (arith, ints))

-- ---- there is one pair
pub factors_once : (over under m k p q : ℤ) → under <ℤ pos 0 → AreFactors over under m k → AreFactors over under p q → (m ≡ p) × (k ≡ q)
factors_once over under m k p q negative one two =
    let low = one.least p q two.first two.second two.cancel in
    let high = two.least m k one.first one.second one.cancel in
    let first : m ≡ p = omega (arith, ints) in
    let moved : p *ℤ over +ℤ k *ℤ under ≡ pos 0 = ap (λ (z : ℤ). z *ℤ over +ℤ k *ℤ under) (sym first) ∙ one.cancel in
    let cancel = two.cancel in
    let same : k *ℤ under ≡ q *ℤ under = omega (arith, linear, moved, cancel) in
    let turned : under *ℤ k ≡ under *ℤ q = int_mul-comm under k ∙ same ∙ int_mul-comm q under in
    let some : under ≢ pos 0 = λ none. (let below : pos 0 <ℤ pos 0 = subst (λ (z : ℤ). z <ℤ pos 0) none negative in omega (arith, ints)) in
    (first, int_mul-cancel under k q some turned)

-- where they do not both fit, there are none that do
pub no_fitting : (over under : ℤ) → under <ℤ pos 0 → HaveUnfitFactors over under → NoFittingFactors over under
no_fitting over under negative unfit = λ m k are first second.
    let same = factors_once over under unfit.0 unfit.1 m k negative unfit.2 are in
    elim unfit.3 [
      | inl wide ↦ wide (subst (FitsSigned w128) (sym same.0) first)
      | inr wide ↦ wide (subst (FitsSigned w128) (sym same.1) second)
    ]

-- the divisor of two sizes is that of the numbers
pub gcd_of : (over under : ℤ) (a b h : ℕ) → a ≡ unsigned_abs over → b ≡ unsigned_abs under → IsGcd a b h
    → IsGcd (unsigned_abs over) (unsigned_abs under) h
gcd_of over under a b h one two gcd =
    subst (λ (n : ℕ). IsGcd n (unsigned_abs under) h) one (subst (λ (n : ℕ). IsGcd a n h) two gcd)
