-- Common divisors by size, and the greatest of them.
use Rattle.std.proofs.Common.{◌≡◌, ◌≢◌, ◌⊎◌, inl, inr, ◌↔◌, ℕ, zero, suc, ◌*◌, ◌/◌, ◌<◌, ◌≤◌, ◌^◌, List, [], ◌∷◌, length, ℤ, pos, negsuc, ◌*ℤ◌, ◌≤ℤ◌, ◌<ℤ◌, neg_ℤ, unsigned_abs, Option, Some, None, FitsSigned, arith, sym, ap, ◌∙◌, refl, subst}
use Rattle.std.specs.Prelude.{MatchOption}
use Rattle.std.specs.Int.{w128, IsGcd, ◌∣◌}
use Rattle.std.proofs.Math.Nat.{dvd-mul_right, div-mul_cancel}
use Rattle.std.proofs.lemmas.Int.{unsigned_abs-mul}
use Rattle.std.proofs.lemmas.Nat.Gcd.{dvd_refl, dvd-zero, dvd_trans, le_of_dvd}
use Rattle.std.proofs.lemmas.List.Elements.{All-nil, All-cons, All-head, All-tail}
use borrow.Author.Differences.{ints}
use Rattle.grind_lemmas.specs.Division.{IsMultiple}
use Rattle.grind_lemmas.proofs.Rings.{int_mul-neg}
use Rattle.grind_linear_forms.specs.declared.form.Part.{Part}
use Rattle.grind_linear_forms.specs.Cuts.{Divides, DividesAll}
use Rattle.grind_cutsat_units.specs.Cuts.{IsDivisor}
use Rattle.grind_cutsat_cuts.specs.Divisors.{DividesSizes, IsFittingDivisor, NoFittingDivisor}

-- ---- one number
pub naturals : (a b : ℕ) → pos a *ℤ pos b ≡ pos (a * b)
naturals a b = omega (arith, ints)

pub times_comm : (a b : ℕ) → a * b ≡ b * a
times_comm a b = grind arith

size_divided : (d : ℕ) (z : ℤ) → IsMultiple z (pos d) → d ∣ unsigned_abs z
size_divided d z is =
    let whole : unsigned_abs z ≡ d * unsigned_abs is.0 = ap unsigned_abs is.1 ∙ unsigned_abs-mul (pos d) is.0 in
    subst (λ (n : ℕ). d ∣ n) (sym whole) (dvd-mul_right d (unsigned_abs is.0))

back : (d n : ℕ) → d ∣ n → pos d *ℤ pos (n / d) ≡ pos n
back d n divides = naturals d (n / d) ∙ ap pos (times_comm d (n / d) ∙ div-mul_cancel d divides)

multiple_of : (d : ℕ) (z : ℤ) → d ∣ unsigned_abs z → IsMultiple z (pos d)
multiple_of d (pos n) divides = (pos (n / d), sym (back d n divides))
multiple_of d (negsuc n) divides =
    (neg_ℤ (pos (suc n / d)), sym (int_mul-neg (pos d) (pos (suc n / d)) ∙ ap neg_ℤ (back d (suc n) divides)))

-- ---- each coefficient
pub sizes_of : (d : ℕ) (parts : List Part) → DividesAll (pos d) parts → DividesSizes d parts
sizes_of d [] all = tt
sizes_of d (part ∷ rest) all = (
  size_divided d part.coefficient (All-head (Divides (pos d)) part rest all),
  sizes_of d rest (All-tail (Divides (pos d)) part rest all),
)

pub all_of : (d : ℕ) (parts : List Part) → DividesSizes d parts → DividesAll (pos d) parts
all_of d [] sizes = All-nil (Divides (pos d))
all_of d (part ∷ rest) sizes =
    All-cons (Divides (pos d)) part rest (multiple_of d part.coefficient sizes.0) (all_of d rest sizes.1)

-- ---- shared by all, step by step
-- exactly the common divisors of what was passed divide the number
pub record IsSharedSoFar (parts rest : List Part) (all : ℕ) : Type 0 where
  pub only : (d : ℕ) → d ∣ all → DividesSizes d rest → DividesSizes d parts
  pub each : (d : ℕ) → DividesSizes d parts → (d ∣ all) × DividesSizes d rest

pub shared_begin : (parts rest : List Part) (all : ℕ) → all ≡ 0 → rest ≡ parts → IsSharedSoFar parts rest all
shared_begin parts rest all none is = record {
  only = λ d divides sizes. subst (DividesSizes d) is sizes;
  each = λ d sizes. (subst (λ (n : ℕ). d ∣ n) (sym none) (dvd-zero d), subst (DividesSizes d) (sym is) sizes);
}

pub shared_step : (parts rest tail : List Part) (part : Part) (all s new : ℕ) → rest ≡ part ∷ tail → s ≡ unsigned_abs part.coefficient
    → IsGcd all s new → IsSharedSoFar parts rest all → IsSharedSoFar parts tail new
shared_step parts rest tail part all s new is size gcd so_far = record {
  only = λ d divides sizes.
      so_far.only d (dvd_trans d divides gcd.0)
      (subst (DividesSizes d) (sym is) (subst (λ (n : ℕ). d ∣ n) size (dvd_trans d divides gcd.1), sizes));
  each = λ d sizes.
      let both = so_far.each d sizes in
      let here : DividesSizes d (part ∷ tail) = subst (DividesSizes d) is both.1 in
      (gcd.2 d both.0 (subst (λ (n : ℕ). d ∣ n) (sym size) here.0), here.1);
}

pub shared_end : (parts rest : List Part) (all : ℕ) → length rest ≡ 0 → IsSharedSoFar parts rest all → (d : ℕ) → (d ∣ all) ↔ DividesSizes d parts
shared_end parts [] all none so_far d = (λ divides. so_far.only d divides tt, λ sizes. (so_far.each d sizes).0)
shared_end parts (part ∷ rest) all none so_far d = absurd (omega arith)

-- ---- the greatest
one_fits : FitsSigned w128 (pos 1)
one_fits = record { sfits = omega arith }

pub alone : (parts : List Part) → parts ≡ [] → IsFittingDivisor parts (pos 1)
alone parts none = (
  record {
    positive = omega (arith, ints);
    divides = subst (DividesAll (pos 1)) (sym none) (All-nil (Divides (pos 1)));
    greatest = λ other positive divides some. absurd (some none);
    alone = λ e. refl;
  },
  one_fits,
)

-- there is one
pub divisor_once : (parts : List Part) (g other : ℤ) → IsDivisor parts g → IsDivisor parts other → g ≡ other
divisor_once [] g other one two = one.alone refl ∙ sym (two.alone refl)
divisor_once (part ∷ rest) g other one two =
    let some : part ∷ rest ≢ [] = λ none. (let size : length (part ∷ rest) ≡ 0 = ap length none in omega arith) in
    let low = one.greatest other two.positive two.divides some in
    let high = two.greatest g one.positive one.divides some in omega (arith, ints)

module _ (parts : List Part) (s : ℕ) (some : parts ≢ []) (shared : (d : ℕ) → (d ∣ s) ↔ DividesSizes d parts) where
  at_most : 0 < s → (other : ℤ) → pos 0 <ℤ other → DividesAll other parts → other ≤ℤ pos s
  at_most positive (pos d) above divides =
      let low : d ≤ s = le_of_dvd positive ((shared d).1 (sizes_of d parts divides)) in omega (arith, ints)
  at_most positive (negsuc d) above divides = absurd (omega (arith, ints))

  greatest_is : 0 < s → IsDivisor parts (pos s)
  greatest_is positive = record {
    positive = omega (arith, ints);
    divides = all_of s parts ((shared s).0 (dvd_refl s));
    greatest = λ other above divides is. at_most positive other above divides;
    alone = λ none. absurd (some none);
  }

  -- everything divides 0, so none is the greatest
  none_at_zero : s ≡ 0 → (g : ℤ) → IsDivisor parts g → ⊥
  none_at_zero none (pos n) is =
      let divides : suc n ∣ s = subst (λ (k : ℕ). suc n ∣ k) (sym none) (dvd-zero (suc n)) in
      let low = is.greatest (pos (suc n)) (omega (arith, ints)) (all_of (suc n) parts ((shared (suc n)).0 divides)) some in
      omega (arith, ints)
  none_at_zero none (negsuc n) is = let above = is.positive in omega (arith, ints)

  -- it is the number, whether that fits or not
  pub unfit_above : 2 ^ 127 ≤ s → (g : ℤ) × IsDivisor parts g × (FitsSigned w128 g → ⊥)
  unfit_above high = (pos s, greatest_is (omega (arith, high)), λ fits. (let below = fits.sfits in omega (arith, high, below)))

  pub fit_below : s < 2 ^ 127 → (g : ℤ) → IsDivisor parts g → FitsSigned w128 g
  fit_below low g is = by_size s refl
    where
      by_size : (k : ℕ) → s ≡ k → FitsSigned w128 g
      by_size zero none = absurd (none_at_zero none g is)
      by_size (suc k) size =
          subst (FitsSigned w128) (sym (divisor_once parts g (pos s) is (greatest_is (omega (arith, size)))))
          (record { sfits = low })

  no_divisor : (s ≡ 0) ⊎ (2 ^ 127 ≤ s) → (g : ℤ) → IsDivisor parts g → FitsSigned w128 g → ⊥
  no_divisor (inl none) g is fits = none_at_zero none g is
  no_divisor (inr high) (pos n) is fits =
      let below = fits.sfits in
      let low = is.greatest (pos s) (omega (arith, ints)) (all_of s parts ((shared s).0 (dvd_refl s))) some in omega (arith, ints)
  no_divisor (inr high) (negsuc n) is fits = let above = is.positive in omega (arith, ints)

  pub found_divisor : (found : Option ℤ)
      → MatchOption found ((s ≡ 0) ⊎ (2 ^ 127 ≤ s)) (λ it. (it ≡ pos s) × (0 < s) × FitsSigned w128 it)
      → MatchOption found (NoFittingDivisor parts) (IsFittingDivisor parts)
  found_divisor None which = λ g is fits. no_divisor which g is fits
  found_divisor (Some it) is = (subst (IsDivisor parts) (sym is.0) (greatest_is is.1), is.2)
