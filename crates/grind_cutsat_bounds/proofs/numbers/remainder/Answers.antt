use Rattle.std.proofs.lemmas.Int.{rem_is}
use Rattle.std.specs.Int.{w128}
use Rattle.grind_cutsat_bounds.proofs.numbers.remainder.Goals as goal

pub returns : goal.returns
returns c = rem_is w128 c.args.number c.args.divisor c.ranges.number c.ranges.divisor
