-- The greatest power of two that is at most a number.
use Rattle.std.specs.Prelude.{◌≡◌, ℕ, zero, suc, ◌+◌, ◌*◌, ◌<◌, ◌≤◌, ◌^◌, Bool, true, false, cond, refl}
use Rattle.std.proofs.Common.{arith, subst, inl, inr}
use Rattle.std.proofs.Math.Dec.{ltb}
use Rattle.std.proofs.Math.Pow.{pow_mono}
use Rattle.std.proofs.Math.Nat.{pow-suc}
use Rattle.std.proofs.lemmas.Bool.{cases_lt, ltb-true, ltb-false}

-- the greatest exponent up to b of a power of two that is at most m, and 0 where m is 0
abbrev pub exponent : ℕ → ℕ → ℕ
exponent zero m = 0
exponent (suc b) m = cond (ltb m (2 ^ suc b)) (exponent b m) (suc b)

exponent_in : (b m : ℕ) (P : ℕ → Type 0) → (m < 2 ^ suc b → P (exponent b m)) → (2 ^ suc b ≤ m → P (suc b)) → P (exponent (suc b) m)
exponent_in b m P less more = pick (ltb m (2 ^ suc b)) refl
  where
    pick : (t : Bool) → ltb m (2 ^ suc b) ≡ t → P (cond t (exponent b m) (suc b))
    pick true is = less (ltb-true m (2 ^ suc b) is)
    pick false is = more (ltb-false m (2 ^ suc b) is)

pub exponent-le : (b m : ℕ) → exponent b m ≤ b
exponent-le zero m = omega arith
exponent-le (suc b) m =
    exponent_in b m (λ e. e ≤ suc b) (λ _. let before = exponent-le b m in omega (arith, before)) (λ _. omega arith)

-- its power is at most the number
pub exponent-below : (b m : ℕ) → 1 ≤ m → 2 ^ exponent b m ≤ m
exponent-below zero m some = some
exponent-below (suc b) m some = exponent_in b m (λ e. 2 ^ e ≤ m) (λ _. exponent-below b m some) (λ more. more)

-- and no power with a greater exponent up to b is
pub exponent-greatest : (b m k : ℕ) → k ≤ b → 2 ^ k ≤ m → k ≤ exponent b m
exponent-greatest zero m k low power = low
exponent-greatest (suc b) m k low power =
    exponent_in b m (λ e. k ≤ e) (small (λ within. exponent-greatest b m k within power)) (λ _. low)
  where
    small : (k ≤ b → k ≤ exponent b m) → m < 2 ^ suc b → k ≤ exponent b m
    small before less = elim (cases_lt k (suc b)) [
      | inl below ↦ before (omega (arith, below))
      | inr past ↦ let mono : 2 ^ suc b ≤ 2 ^ k = pow_mono past in absurd (omega (arith, mono, less, power))
    ]

-- a greater number has no smaller one
pub exponent-mono : (b m n : ℕ) → 1 ≤ m → m ≤ n → exponent b m ≤ exponent b n
exponent-mono b m n some le =
    let below = exponent-below b m some in
    exponent-greatest b n (exponent b m) (exponent-le b m) (omega (arith, below, le))

power_next : (e : ℕ) → 2 ^ (e + 1) ≡ 2 ^ e * 2
power_next e = let same : suc e ≡ e + 1 = omega arith in subst (λ (k : ℕ). 2 ^ k ≡ 2 ^ e * 2) same (pow-suc 2 e)

-- one that is twice as great has one more
pub exponent-twice : (b m n : ℕ) → 1 ≤ m → m + m ≤ n → n < 2 ^ (b + 1) → exponent b m + 1 ≤ exponent b n
exponent-twice b m n some twice bound =
    let e : ℕ = exponent b m in
    let below : 2 ^ e ≤ m = exponent-below b m some in
    let double : 2 ^ (e + 1) ≡ 2 ^ e * 2 = power_next e in
    let power : 2 ^ (e + 1) ≤ n = omega (arith, below, double, twice) in
    let low : e + 1 ≤ b = elim (cases_lt b (e + 1)) [
      | inl past ↦ let mono : 2 ^ (b + 1) ≤ 2 ^ (e + 1) = pow_mono (omega (arith, past)) in absurd (omega (arith, mono, power, bound))
      | inr within ↦ within
    ] in
    exponent-greatest b n (e + 1) low power
