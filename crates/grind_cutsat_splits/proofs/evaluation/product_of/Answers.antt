use Rattle.std.proofs.Common.{◌*ℤ◌}
use Rattle.std.proofs.lemmas.Int.{to_z-of_z}
use Rattle.std.specs.Int.{w128}
use Rattle.grind_linear_forms.proofs.Fits.{fit_from}
use Rattle.grind_cutsat_splits.proofs.evaluation.product_of.Goals as goal

pub returns : goal.returns
returns c =
    fit_from c.checked_mul.result (c.args.left *ℤ c.args.right)
    (simp (to_z-of_z w128 c.args.left c.ranges.left, to_z-of_z w128 c.args.right c.ranges.right) at c.checked_mul.ensures)
