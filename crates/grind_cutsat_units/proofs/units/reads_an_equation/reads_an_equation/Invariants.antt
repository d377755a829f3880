use Rattle.std.proofs.Common.{length}
use Rattle.grind_cutsat_units.specs.Equations.{EquationGives}
use Rattle.grind_cutsat_units.specs.Passing.{IsPassed}
use Rattle.grind_cutsat_units.proofs.units.reads_an_equation.reads_an_equation.Given as goal

abbrev pub invariant-loop-fact : goal.invariant-loop-fact
invariant-loop-fact l = IsPassed EquationGives l.view.facts.now l.rest

abbrev pub decreases-loop-fact : goal.decreases-loop-fact
decreases-loop-fact l = length l.rest
