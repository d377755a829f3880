use Rattle.grind_board_state.specs.Beginnings.{AreActiveBelow}
use Rattle.grind_board_state.proofs.beginning.all_active.Given as goal

abbrev pub invariant-loop-number : goal.invariant-loop-number
invariant-loop-number l = AreActiveBelow l.fn.terms.nodes l.begun l.number
