use Rattle.std.proofs.lemmas.Int.{quot_is, quot_fits}
use Rattle.std.specs.Int.{w128}
use Rattle.grind_cutsat_bounds.proofs.numbers.whole_quotient.Goals as goal

pub returns : goal.returns
returns c =
    quot_is w128 c.args.number c.args.divisor c.ranges.number c.ranges.divisor
    (quot_fits w128 c.args.number c.args.divisor c.ranges.number c.requires)
