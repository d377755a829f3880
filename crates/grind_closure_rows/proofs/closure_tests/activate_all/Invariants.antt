use Rattle.grind_congruence.specs.Congruence.{Fits}
use Rattle.grind_closure_rows.proofs.closure_tests.activate_all.Given as goal

abbrev pub invariant-loop-number : goal.invariant-loop-number
invariant-loop-number l = Fits l.closure l.fn.terms.nodes
