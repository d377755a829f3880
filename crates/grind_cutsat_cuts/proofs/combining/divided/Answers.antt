use Rattle.std.specs.Int.{w128}
use Rattle.std.proofs.lemmas.Int.{to_z-of_z}
use Rattle.grind_cutsat_cuts.proofs.combining.divided.Goals as goal

pub cut-requires-clause-divides : goal.cut-requires-clause-divides
cut-requires-clause-divides c = simp (to_z-of_z w128 c.args.divisor c.ranges.divisor) c.requires.divides
