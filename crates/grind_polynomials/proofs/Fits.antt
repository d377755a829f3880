-- Numbers that fit in 128 bits, and what answers or refuses.
use Rattle.std.proofs.Common.{◌≡◌, ◌^◌, Bool, true, false, ltb, ℤ, pos, negsuc, ◌+ℤ◌, ◌-ℤ◌, FitsSigned, to_z, Option, Some, None, Result, Ok, Err, SomeIff, MatchOption, sym, ap, ◌∙◌, refl, subst, ℕ, ◌<◌, ◌≤◌, arith}
use Rattle.std.specs.Int.{w128}
use borrow.Author.Differences.{ints}
use Rattle.std.specs.Result.{is_err}
use Rattle.std.proofs.lemmas.Bool.{cond-true, cond-false, lt-ltb, ltb-true, false_from_ne_true, false≢true}
use Rattle.grind_polynomials.specs.declared.poly.PolyRefusal.{PolyRefusal}
use Rattle.grind_polynomials.specs.declared.poly.PolyRefusal.TheVariants.{Overflow}
use Rattle.grind_polynomials.specs.Polynomials.{fit_or_refuse}
use Rattle.grind_polynomials.specs.Sums.{signed}

-- ---- answers and refusals
pub ok-err : {A : Type 0} → (r : Result A PolyRefusal) (x : A) (e : PolyRefusal) → r ≡ Ok x → r ≡ Err e → ⊥
ok-err r x e f g = false≢true (ap is_err (sym f ∙ g))

value_or : {A : Type 0} → A → Result A PolyRefusal → A
value_or d (Ok x) = x
value_or d (Err e) = d

pub same_Ok : {A : Type 0} → (r : Result A PolyRefusal) (x y : A) → r ≡ Ok x → r ≡ Ok y → x ≡ y
unfolding value_or
same_Ok r x y f g = ap (value_or x) (sym f ∙ g)

refusal_or : {A : Type 0} → PolyRefusal → Result A PolyRefusal → PolyRefusal
refusal_or d (Ok x) = d
refusal_or d (Err e) = e

pub same_Err : {A : Type 0} → (r : Result A PolyRefusal) (x y : PolyRefusal) → r ≡ Err x → r ≡ Err y → x ≡ y
unfolding refusal_or
same_Err r x y f g = ap (refusal_or x) (sym f ∙ g)

-- ---- numbers
pub fit_in : (z : ℤ) → FitsSigned w128 z → fit_or_refuse z ≡ Ok z
unfolding fit_or_refuse
fit_in (pos n) f = cond-true (ltb n (2 ^ 127)) _ _ (lt-ltb n (2 ^ 127) f.sfits)
fit_in (negsuc n) f = cond-true (ltb n (2 ^ 127)) _ _ (lt-ltb n (2 ^ 127) f.sfits)

pub fit_out : (z : ℤ) → (FitsSigned w128 z → ⊥) → fit_or_refuse z ≡ Err Overflow
unfolding fit_or_refuse
fit_out (pos n) f = cond-false (ltb n (2 ^ 127)) _ _
    (false_from_ne_true (ltb n (2 ^ 127)) (λ e. f (record { sfits = ltb-true n (2 ^ 127) e })))
fit_out (negsuc n) f = cond-false (ltb n (2 ^ 127)) _ _
    (false_from_ne_true (ltb n (2 ^ 127)) (λ e. f (record { sfits = ltb-true n (2 ^ 127) e })))

-- a number fits or it does not
pub fit_cases : (z : ℤ) (P : Type 0) → (fit_or_refuse z ≡ Ok z → P) → (fit_or_refuse z ≡ Err Overflow → P) → P
unfolding fit_or_refuse
fit_cases (pos n) P fits over = at_test (ltb n (2 ^ 127)) refl
  where
    at_test : (b : Bool) → ltb n (2 ^ 127) ≡ b → P
    at_test true e = fits (cond-true (ltb n (2 ^ 127)) _ _ e)
    at_test false e = over (cond-false (ltb n (2 ^ 127)) _ _ e)
fit_cases (negsuc n) P fits over = at_test (ltb n (2 ^ 127)) refl
  where
    at_test : (b : Bool) → ltb n (2 ^ 127) ≡ b → P
    at_test true e = fits (cond-true (ltb n (2 ^ 127)) _ _ e)
    at_test false e = over (cond-false (ltb n (2 ^ 127)) _ _ e)

-- what is answered is the number
pub fit_is : (z y : ℤ) → fit_or_refuse z ≡ Ok y → y ≡ z
fit_is z y e = fit_cases z (y ≡ z) (λ f. same_Ok (fit_or_refuse z) y z e f) (λ f. absurd (ok-err (fit_or_refuse z) y Overflow e f))

-- and what is refused does not fit
pub fit_refuses : (z : ℤ) (e : PolyRefusal) → fit_or_refuse z ≡ Err e → e ≡ Overflow
fit_refuses z e f = fit_cases z (e ≡ Overflow) (λ g. absurd (ok-err (fit_or_refuse z) z e g f)) (λ g. same_Err (fit_or_refuse z) e Overflow f g)

-- a checked operation answers as `fit` says
pub fit_from : (r : Option ℤ) (z : ℤ) → SomeIff r (FitsSigned w128 z) z → MatchOption r (fit_or_refuse z ≡ Err Overflow) (λ y. fit_or_refuse z ≡ Ok y)
fit_from None z h = fit_out z h
fit_from (Some x) z h = subst (λ (y : ℤ). fit_or_refuse z ≡ Ok y) (sym h.1) (fit_in z h.0)

pub minus_is : (x y : ℤ) → x -ℤ y ≡ x +ℤ signed true y
minus_is x y = refl

pub large-out : (n : ℕ) → 170141183460469231731687303715884105727 < n → fit_or_refuse (pos n) ≡ Err Overflow
large-out n h = fit_out (pos n) (λ f. let below = f.sfits in omega arith)

pub small-in : (n : ℕ) → n ≤ 170141183460469231731687303715884105727 → fit_or_refuse (pos n) ≡ Ok (to_z w128 n)
small-in n h =
    let is : to_z w128 n ≡ pos n = omega (arith, ints) in
    fit_in (pos n) (record { sfits = omega arith }) ∙ ap (λ (z : ℤ). Ok z) (sym is)
