use Rattle.grind_congruence.specs.Congruence.{Fits}
use Rattle.grind_closure_rows.proofs.closure_tests.settled.Given as goal

abbrev pub invariant-loop : goal.invariant-loop
invariant-loop l = Fits l.closure l.fn.terms.nodes
