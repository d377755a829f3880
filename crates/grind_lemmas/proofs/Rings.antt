-- Sums and products of whole numbers are those of a ring.
use Rattle.std.proofs.Common.{◌≡◌, ℕ, ◌+◌, ◌*◌, ℤ, ◌+ℤ◌, ◌*ℤ◌, neg_ℤ, arith, ap, ◌∙◌}
use borrow.Author.Differences.{up, down, fits_out, fits_in, same_out, Apart-out, lt_T, le_T, lt_not, le_not, lt-true, lt-false, le-true, le-false, lt_out, le_out, same_in, lt_in, le_in, below_in, at_most_in, sum_is_lem, neg_is, product_is, ints}

-- the kit's facts on sums, negations, order and casts: each product is an unknown
pub ruleset linear = (fits_out, same_out, Apart-out, lt_T, le_T, lt_not, le_not, lt-true, lt-false, le-true, le-false, lt_out, le_out, fits_in, same_in, lt_in, le_in, below_in, at_most_in, sum_is_lem, neg_is)

pub int_add-comm : (a b : ℤ) → a +ℤ b ≡ b +ℤ a
int_add-comm a b = omega (arith, ints)

pub int_add-assoc : (a b c : ℤ) → (a +ℤ b) +ℤ c ≡ a +ℤ (b +ℤ c)
int_add-assoc a b c = omega (arith, ints)

pub int_mul-comm : (a b : ℤ) → a *ℤ b ≡ b *ℤ a
int_mul-comm a b = omega (arith, same_in, product_is)

-- the parts of a sum, as a product with a natural has them
times_sum : (n : ℕ) (b c : ℤ) → n * up (b +ℤ c) + n * down b + n * down c ≡ n * down (b +ℤ c) + n * up b + n * up c
times_sum n b c = let e = ap (λ (x : ℕ). n * x) (sum_is_lem b c) in omega (arith, e)

pub int_mul-add : (a b c : ℤ) → a *ℤ (b +ℤ c) ≡ a *ℤ b +ℤ a *ℤ c
int_mul-add a b c = omega (arith, same_in, product_is, sum_is_lem, times_sum (up a) b c, times_sum (down a) b c)

pub int_add-mul : (a b c : ℤ) → (a +ℤ b) *ℤ c ≡ a *ℤ c +ℤ b *ℤ c
int_add-mul a b c = int_mul-comm (a +ℤ b) c ∙ int_mul-add c a b ∙ omega (arith, same_in, sum_is_lem, same_out, int_mul-comm c a, int_mul-comm c b)

pub int_mul-neg : (a b : ℤ) → a *ℤ neg_ℤ b ≡ neg_ℤ (a *ℤ b)
int_mul-neg a b =
    let turned = neg_is b in
    let one = ap (λ (x : ℕ). up a * x) turned.0 in
    let two = ap (λ (x : ℕ). up a * x) turned.1 in
    let three = ap (λ (x : ℕ). down a * x) turned.0 in
    let four = ap (λ (x : ℕ). down a * x) turned.1 in omega (arith, same_in, product_is, neg_is)

pub int_neg-mul : (a b : ℤ) → neg_ℤ a *ℤ b ≡ neg_ℤ (a *ℤ b)
int_neg-mul a b = int_mul-comm (neg_ℤ a) b ∙ int_mul-neg b a ∙ ap neg_ℤ (int_mul-comm b a)

pub int_mul-assoc : (a b c : ℤ) → (a *ℤ b) *ℤ c ≡ a *ℤ (b *ℤ c)
int_mul-assoc a b c =
    let left = product_is a b in
    let right = product_is b c in
    let one = ap (λ (x : ℕ). x * up c) left.0 in
    let two = ap (λ (x : ℕ). x * down c) left.0 in
    let three = ap (λ (x : ℕ). x * up c) left.1 in
    let four = ap (λ (x : ℕ). x * down c) left.1 in
    let five = ap (λ (x : ℕ). up a * x) right.0 in
    let six = ap (λ (x : ℕ). down a * x) right.0 in
    let seven = ap (λ (x : ℕ). up a * x) right.1 in
    let eight = ap (λ (x : ℕ). down a * x) right.1 in omega (arith, same_in, product_is)
