use Rattle.std.specs.Int.{w128}
use Rattle.std.proofs.lemmas.Int.{to_z-of_z}
use Rattle.grind_cutsat_cuts.proofs.SumLemmas.{none_two, some_two}
use Rattle.grind_cutsat_cuts.proofs.combining.sum_of_two.Goals as goal

pub returns-in_default : goal.returns-in_default
returns-in_default c =
    none_two c.args.upper.now c.args.lower.now c.args.first c.args.second c.requires.first c.requires.second c.number.result c.number.ensures
    c.in_ok-found.found (simp (to_z-of_z w128 c.args.first c.ranges.first) at c.in_ok-found.ensures) c.in_default.is

pub returns : goal.returns
returns c =
    some_two c.args.upper.now c.args.lower.now c.args.first c.args.second c.requires.first c.requires.second c.number.result c.number.ensures
    c.in_ok-found.found (simp (to_z-of_z w128 c.args.first c.ranges.first) at c.in_ok-found.ensures) c.in-Some.sum c.in-Some.is
    c.in_ok-both.both (simp (to_z-of_z w128 c.args.second c.ranges.second) at c.in_ok-both.ensures)
