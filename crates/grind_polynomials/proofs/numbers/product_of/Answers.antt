use Rattle.std.proofs.lemmas.Int.{to_z-of_z}
use Rattle.std.specs.Int.{w128}
use Rattle.std.proofs.Common.{◌*ℤ◌}
use Rattle.grind_polynomials.proofs.Fits.{fit_from}
use Rattle.grind_polynomials.proofs.numbers.product_of.Goals as goal

pub returns : goal.returns
returns c =
    fit_from c.checked_mul.result (c.args.x *ℤ c.args.y)
    (simp (to_z-of_z w128 c.args.x c.ranges.x, to_z-of_z w128 c.args.y c.ranges.y) at c.checked_mul.ensures)
