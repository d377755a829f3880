-- Products of whole numbers and their order, and quotients that are rounded up.
use Rattle.std.proofs.Common.{◌≡◌, ◌≢◌, zero, suc, ℤ, pos, negsuc, ◌+ℤ◌, ◌*ℤ◌, neg_ℤ, ◌≤ℤ◌, ◌<ℤ◌, arith, refl}
use Rattle.std.proofs.lemmas.Int.{by_lt_z}
use borrow.Author.Differences.{ints}
use Rattle.grind_lemmas.specs.Rounding.{IsCeil}
use Rattle.grind_lemmas.proofs.Rings.{linear, int_mul-add, int_mul-neg}

-- the product of two numbers that are not negative is not negative
pub int_mul-nonneg : (a b : ℤ) → pos 0 ≤ℤ a → pos 0 ≤ℤ b → pos 0 ≤ℤ (a *ℤ b)
int_mul-nonneg (pos a) (pos b) p q = omega (arith, ints)
int_mul-nonneg (pos a) (negsuc b) p q = absurd (omega (arith, ints))
int_mul-nonneg (negsuc a) b p q = absurd (omega (arith, ints))

-- the product of two positive numbers is positive
pub int_mul-positive : (a b : ℤ) → pos 0 <ℤ a → pos 0 <ℤ b → pos 0 <ℤ (a *ℤ b)
int_mul-positive (pos zero) b p q = absurd (omega (arith, ints))
int_mul-positive (pos (suc a)) (pos zero) p q = absurd (omega (arith, ints))
int_mul-positive (pos (suc a)) (pos (suc b)) p q = omega (arith, ints)
int_mul-positive (pos (suc a)) (negsuc b) p q = absurd (omega (arith, ints))
int_mul-positive (negsuc a) b p q = absurd (omega (arith, ints))

-- a factor that is not negative keeps order
pub int_mul-le : (m a b : ℤ) → pos 0 ≤ℤ m → a ≤ℤ b → (m *ℤ a) ≤ℤ (m *ℤ b)
int_mul-le m a b p q =
    let apart : pos 0 ≤ℤ (b +ℤ neg_ℤ a) = omega (arith, linear) in
    let product = int_mul-nonneg m (b +ℤ neg_ℤ a) p apart in
    let sum = int_mul-add m b (neg_ℤ a) in
    let sign = int_mul-neg m a in omega (arith, linear)

-- a positive factor keeps strict order
pub int_mul-lt : (m a b : ℤ) → pos 0 <ℤ m → a <ℤ b → (m *ℤ a) <ℤ (m *ℤ b)
int_mul-lt m a b p q =
    let apart : pos 0 <ℤ (b +ℤ neg_ℤ a) = omega (arith, linear) in
    let product = int_mul-positive m (b +ℤ neg_ℤ a) p apart in
    let sum = int_mul-add m b (neg_ℤ a) in
    let sign = int_mul-neg m a in omega (arith, linear)

-- a multiple of a positive number that is below that number is that of a number at most 0
pub int_mul-below : (g x : ℤ) → pos 0 <ℤ g → (g *ℤ x) <ℤ g → x ≤ℤ pos 0
int_mul-below g x p q = by_lt_z (pos 0) x (λ over. absurd (contrary over)) (λ under. under)
  where
    contrary : pos 0 <ℤ x → ⊥
    contrary over =
        let least : pos 1 ≤ℤ x = omega (arith, linear) in
        let positive : pos 0 ≤ℤ g = omega (arith, linear) in
        let product = int_mul-le g (pos 1) x positive least in
        let unit : g *ℤ pos 1 ≡ g = omega (arith, ints) in omega (arith, linear)

-- where a product is 0 and its first factor is not, its second factor is 0
pub int_mul-zero_out : (a b : ℤ) → a *ℤ b ≡ pos 0 → a ≢ pos 0 → b ≡ pos 0
int_mul-zero_out (pos zero) b e n = absurd (n refl)
int_mul-zero_out (pos (suc a)) (pos b) e n = omega (arith, ints)
int_mul-zero_out (pos (suc a)) (negsuc b) e n = absurd (omega (arith, ints))
int_mul-zero_out (negsuc a) (pos b) e n = omega (arith, ints)
int_mul-zero_out (negsuc a) (negsuc b) e n = absurd (omega (arith, ints))

-- a factor that is not 0 may be taken off both sides
pub int_mul-cancel : (a b c : ℤ) → a ≢ pos 0 → a *ℤ b ≡ a *ℤ c → b ≡ c
int_mul-cancel a b c n e =
    let sum = int_mul-add a b (neg_ℤ c) in
    let sign = int_mul-neg a c in
    let vanishes : a *ℤ (b +ℤ neg_ℤ c) ≡ pos 0 = omega (arith, linear) in
    let apart = int_mul-zero_out a (b +ℤ neg_ℤ c) vanishes n in omega (arith, linear)

-- rounding up keeps order
pub ceil-keeps_order : (c d g q r : ℤ) → pos 0 <ℤ g → c ≤ℤ d → IsCeil c g q → IsCeil d g r → q ≤ℤ r
ceil-keeps_order c d g q r p h one other =
    let sum = int_mul-add g q (neg_ℤ r) in
    let sign = int_mul-neg g r in
    let low = one.least in
    let high = other.above in
    let apart = int_mul-below g (q +ℤ neg_ℤ r) p (omega (arith, linear)) in omega (arith, linear)

-- a number has one quotient that is rounded up
pub ceil-unique : (c g q other : ℤ) → pos 0 <ℤ g → IsCeil c g q → IsCeil c g other → q ≡ other
ceil-unique c g q other p one two =
    let same : c ≤ℤ c = omega (arith, linear) in
    let below = ceil-keeps_order c c g q other p same one two in
    let above = ceil-keeps_order c c g other q p same two one in omega (arith, linear)

-- where a multiple of g and a number are together at most 0, so are the multiplied number and the quotient, rounded up
pub ceil-at_most : (c g q s : ℤ) → pos 0 <ℤ g → IsCeil c g q → (g *ℤ s +ℤ c) ≤ℤ pos 0 → (s +ℤ q) ≤ℤ pos 0
ceil-at_most c g q s p rounded h =
    let sum = int_mul-add g s q in
    let low = rounded.least in int_mul-below g (s +ℤ q) p (omega (arith, linear))
