-- Where the bounds of an atom that fit enclose no number, the greatest that the upper bounds allow can be split at.
use Rattle.std.proofs.Common.{◌≡◌, ◌≢◌, ◌⊎◌, inl, inr, ℕ, zero, suc, ◌^◌, Bool, true, false, cond, ltb, List, [], ◌∷◌, All, ℤ, pos, negsuc, neg_ℤ, ◌+ℤ◌, ◌*ℤ◌, ◌≤ℤ◌, ◌<ℤ◌, FitsSigned, Option, Some, None, arith, refl, subst}
use Rattle.std.specs.Option.{option_and_then}
use Rattle.std.specs.Int.{w128}
use Rattle.std.proofs.lemmas.Bool.{ltb-true}
use Rattle.std.proofs.lemmas.Option.{none-some, same_Some}
use Rattle.std.proofs.lemmas.List.Elements.{All-nil, All-cons}
use borrow.Author.Differences.{ints}
use Rattle.grind_lemmas.proofs.Rings.{linear, int_mul-comm, int_mul-neg}
use Rattle.grind_lemmas.proofs.Orders.{int_mul-le}
use Rattle.grind_linear_forms.specs.declared.form.Part.{Part}
use Rattle.grind_linear_forms.specs.Forms.{fit, part_of}
use Rattle.grind_differences.specs.Bounds.{HasOpposite}
use Rattle.grind_cutsat_facts.specs.declared.facts.Fact.{Fact}
use Rattle.grind_cutsat_bounds.specs.Evaluations.{with_part, evaluated}
use Rattle.grind_cutsat_bounds.specs.Bounds.{Bound, bound_form, IsBound, rest_at, Allows, IsBetween, IsBelow, AllFit}
use Rattle.grind_cutsat_bounds.specs.Nearest.{IsGreatest}
use Rattle.grind_cutsat_assignment.specs.Given.{Given}
use Rattle.grind_cutsat_assignment.specs.Assignments.{HasGap}
use Rattle.grind_cutsat_splits.specs.Splits.{gap_form}
use Rattle.grind_cutsat_splits.specs.Alone.{IsOrdered, IsInside}

-- ---- what is worked out fits
by_range : (b : Bool) (z y : ℤ) → (b ≡ true → FitsSigned w128 z) → cond b (Some z) None ≡ Some y → FitsSigned w128 y
by_range true z y fits e = subst (FitsSigned w128) (same_Some z y e) (fits refl)
by_range false z y fits e = absurd (none-some y e)

fit_fits : (z y : ℤ) → fit z ≡ Some y → FitsSigned w128 y
unfolding fit
fit_fits (pos n) y e = by_range (ltb n (2 ^ 127)) (pos n) y (λ low. record { sfits = ltb-true n (2 ^ 127) low }) e
fit_fits (negsuc n) y e = by_range (ltb n (2 ^ 127)) (negsuc n) y (λ low. record { sfits = ltb-true n (2 ^ 127) low }) e

step_fits : (v : ℕ → ℤ) (sum : ℤ) (part : Part) (next : ℤ) → with_part v sum part ≡ Some next → FitsSigned w128 next
step_fits v sum part next e = of_product (fit (part.coefficient *ℤ v part.node)) e
  where
    of_product : (product : Option ℤ) → option_and_then (λ (p : ℤ). fit (sum +ℤ p)) product ≡ Some next → FitsSigned w128 next
    of_product None is = absurd (none-some next is)
    of_product (Some p) is = fit_fits (sum +ℤ p) next is

evaluated_fits : (v : ℕ → ℤ) (parts : List Part) (sum rest : ℤ) → FitsSigned w128 sum → evaluated v sum parts ≡ Some rest
    → FitsSigned w128 rest
evaluated_fits v [] sum rest fits e = subst (FitsSigned w128) (same_Some sum rest e) fits
evaluated_fits v (part ∷ parts) sum rest fits e =
    of_step (λ next is left. evaluated_fits v parts next rest (step_fits v sum part next is) left) (with_part v sum part) refl e
  where
    of_step : ((next : ℤ) → with_part v sum part ≡ Some next → evaluated v next parts ≡ Some rest → FitsSigned w128 rest)
        → (next : Option ℤ) → with_part v sum part ≡ next → option_and_then (λ (it : ℤ). evaluated v it parts) next ≡ Some rest
        → FitsSigned w128 rest
    of_step go None is left = absurd (none-some rest left)
    of_step go (Some next) is left = go next is left

-- ---- the greatest number that fits
abbrev most : ℕ
most = 170141183460469231731687303715884105727

fits_low : (z : ℤ) → FitsSigned w128 z → z ≤ℤ pos most
fits_low (pos n) fits = let less = fits.sfits in omega (arith, ints, less)
fits_low (negsuc n) fits = omega (arith, ints)

fit_between : (z : ℤ) → neg_ℤ (pos most) ≤ℤ z → z ≤ℤ pos most → FitsSigned w128 z
fit_between (pos n) low high = record { sfits = omega (arith, ints, high) }
fit_between (negsuc n) low high = record { sfits = omega (arith, ints, low) }

over_or_not : (c : ℤ) → (pos 0 <ℤ c) ⊎ (c ≤ℤ pos 0)
over_or_not (pos zero) = inr (omega (arith, ints))
over_or_not (pos (suc n)) = inl (omega (arith, ints))
over_or_not (negsuc n) = inr (omega (arith, ints))

-- ---- plain numbers
low_allowed : (c r t : ℤ) → pos 0 <ℤ c → pos 0 ≤ℤ t → r ≤ℤ t → (c *ℤ neg_ℤ t +ℤ r) ≤ℤ pos 0
low_allowed c r t over positive low =
    let least : pos 1 ≤ℤ c = omega (arith, linear) in
    let product = int_mul-le t (pos 1) c positive least in
    let one : t *ℤ pos 1 ≡ t = omega (arith, ints) in
    let turned = int_mul-comm t c in
    let sign = int_mul-neg c t in omega (arith, linear)

high_allowed_over : (c r t floor : ℤ) → pos 0 <ℤ c → t ≤ℤ floor → (c *ℤ floor +ℤ r) ≤ℤ pos 0 → (c *ℤ t +ℤ r) ≤ℤ pos 0
high_allowed_over c r t floor over high allowed =
    let positive : pos 0 ≤ℤ c = omega (arith, linear) in
    let product = int_mul-le c t floor positive high in omega (arith, linear)

high_allowed_under : (c r t : ℤ) → c ≤ℤ pos 0 → c ≢ pos 0 → pos 0 ≤ℤ t → r ≤ℤ t → (c *ℤ t +ℤ r) ≤ℤ pos 0
high_allowed_under c r t under other positive low =
    let less = below c under other in
    let product = int_mul-le t c (neg_ℤ (pos 1)) positive less in
    let sign = int_mul-neg t (pos 1) in
    let one : t *ℤ pos 1 ≡ t = omega (arith, ints) in
    let turned = int_mul-comm c t in omega (arith, linear)
  where
    below : (c : ℤ) → c ≤ℤ pos 0 → c ≢ pos 0 → c ≤ℤ neg_ℤ (pos 1)
    below (pos zero) h different = absurd (different refl)
    below (pos (suc n)) h different = omega (arith, ints)
    below (negsuc n) h different = omega (arith, ints)

-- ---- the gap
module _ (it : Given) (ordered : IsOrdered it) (x : ℕ) (floor : ℤ) (gap : HasGap it x floor) where
  abbrev values : ℕ → ℤ
  values = gap.0

  rest_fits : (post : ℕ) (bound : Bound) → IsBound it.facts x post bound → (rest : ℤ) → rest_at values bound ≡ Some rest
      → rest ≤ℤ pos most
  rest_fits post bound is rest e = fits_low rest
      (evaluated_fits values bound.greater bound.constant rest (ordered.constants post (bound_form x bound) is) e)

  least_is_below : IsBelow values it.facts x (neg_ℤ (pos most))
  least_is_below post bound is over =
      let rest = gap.2 post bound is in (
        rest.0,
        rest.1,
        low_allowed bound.coefficient rest.0 (pos most) over (omega (arith, ints)) (rest_fits post bound is rest.0 rest.1),
      )

  most_is_between : pos most ≤ℤ floor → IsBetween values it.facts x (pos most)
  most_is_between high post bound is = elim (over_or_not bound.coefficient) [
    | inl over ↦
        let allowed = gap.4.within post bound is over in
        (allowed.0, allowed.1, high_allowed_over bound.coefficient allowed.0 (pos most) floor over high allowed.2)
    | inr under ↦
        let rest = gap.2 post bound is in (
          rest.0,
          rest.1,
          high_allowed_under bound.coefficient rest.0 (pos most) under (ordered.forms post (bound_form x bound) is).1
              (omega (arith, ints)) (rest_fits post bound is rest.0 rest.1),
        )
  ]

  floor_below : floor <ℤ pos most
  floor_below = elim (over_or_not (pos most +ℤ neg_ℤ floor)) [
    | inl less ↦ omega (arith, linear, less)
    | inr more ↦ absurd (gap.3 (pos most) (most_is_between (omega (arith, linear, more))))
  ]

  pub gap_is_inside : IsInside floor
  gap_is_inside =
      let low = gap.4.greatest (neg_ℤ (pos most)) least_is_below in
      let high = floor_below in (
        fit_between (neg_ℤ floor) (omega (arith, linear, low, high)) (omega (arith, linear, low, high)),
        fit_between (floor +ℤ pos 1) (omega (arith, linear, low, high)) (omega (arith, linear, low, high)),
      )

-- ---- the split
pub gap_has_opposite : (x : ℕ) (floor : ℤ) → IsInside floor → HasOpposite (gap_form x floor)
gap_has_opposite x floor inside = (
  All-cons (λ (part : Part). FitsSigned w128 (neg_ℤ part.coefficient)) (part_of x (pos 1)) [] (record { sfits = omega arith })
      (All-nil (λ (part : Part). FitsSigned w128 (neg_ℤ part.coefficient))),
  (
      let e : floor +ℤ pos 1 ≡ pos 1 +ℤ neg_ℤ (pos 0 +ℤ neg_ℤ floor) = omega (arith, ints) in
      subst (FitsSigned w128) e inside.1
      ),
)
