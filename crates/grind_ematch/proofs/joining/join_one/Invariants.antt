use Rattle.std.proofs.Common.{take}
use Rattle.grind_ematch.specs.Partials.{JoinsOne}
use Rattle.grind_ematch.proofs.joining.join_one.Given as goal

abbrev pub invariant-loop-other : goal.invariant-loop-other
invariant-loop-other l = JoinsOne l.one (take l.other-index l.right) l.fn.found l.found
