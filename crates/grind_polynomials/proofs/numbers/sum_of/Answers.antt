use Rattle.std.proofs.lemmas.Int.{to_z-of_z}
use Rattle.std.specs.Int.{w128}
use Rattle.std.proofs.Common.{◌≡◌, ◌+ℤ◌, ◌-ℤ◌, Bool, Ok, Err, MatchOption, sym, subst}
use Rattle.grind_polynomials.specs.declared.poly.PolyRefusal.TheVariants.{Overflow}
use Rattle.grind_polynomials.specs.Polynomials.{fit_or_refuse}
use Rattle.grind_polynomials.specs.Sums.{signed}
use Rattle.grind_polynomials.proofs.Fits.{fit_from}
use Rattle.grind_polynomials.proofs.numbers.sum_of.Goals as goal

pub returns-then-minus : goal.returns-then-minus
returns-then-minus c =
    subst (λ (minus : Bool). MatchOption c.checked_sub.result (fit_or_refuse (c.args.x +ℤ signed minus c.args.y) ≡ Err Overflow)
    (λ z. fit_or_refuse (c.args.x +ℤ signed minus c.args.y) ≡ Ok z)) (sym c.if-minus.true)
    (fit_from c.checked_sub.result (c.args.x -ℤ c.args.y)
    (simp (to_z-of_z w128 c.args.x c.ranges.x, to_z-of_z w128 c.args.y c.ranges.y) at c.checked_sub.ensures))

pub returns : goal.returns
returns c =
    subst (λ (minus : Bool). MatchOption c.checked_add.result (fit_or_refuse (c.args.x +ℤ signed minus c.args.y) ≡ Err Overflow)
    (λ z. fit_or_refuse (c.args.x +ℤ signed minus c.args.y) ≡ Ok z)) (sym c.if-minus.false)
    (fit_from c.checked_add.result (c.args.x +ℤ c.args.y)
    (simp (to_z-of_z w128 c.args.x c.ranges.x, to_z-of_z w128 c.args.y c.ranges.y) at c.checked_add.ensures))
