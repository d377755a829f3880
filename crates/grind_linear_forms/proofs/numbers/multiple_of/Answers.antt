use Rattle.std.proofs.lemmas.Int.{to_z-of_z}
use Rattle.std.specs.Int.{w128}
use Rattle.grind_linear_forms.proofs.Fits.{multiple_from}
use Rattle.grind_linear_forms.proofs.numbers.multiple_of.Goals as goal

pub returns : goal.returns
returns c =
    multiple_from c.checked_mul.result c.args.m c.args.x
    (simp (to_z-of_z w128 c.args.m c.ranges.m, to_z-of_z w128 c.args.x c.ranges.x) at c.checked_mul.ensures)
