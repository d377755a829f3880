use Rattle.std.proofs.Common.{length}
use Rattle.grind_arithmetic_rules.specs.LinearRules.{IsTooGreat}
use Rattle.grind_cutsat_units.specs.Passing.{IsWithout}
use Rattle.grind_cutsat_units.proofs.units.clashes.clashes.Given as goal

abbrev pub invariant-loop-fact : goal.invariant-loop-fact
invariant-loop-fact l = IsWithout IsTooGreat l.view.facts.now l.rest

abbrev pub decreases-loop-fact : goal.decreases-loop-fact
decreases-loop-fact l = length l.rest
