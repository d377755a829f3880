use Rattle.std.proofs.Common.{take}
use Rattle.grind_ematch.specs.Partials.{Joins}
use Rattle.grind_ematch.proofs.joining.joined_each.Given as goal

abbrev pub invariant-loop-one : goal.invariant-loop-one
invariant-loop-one l = Joins (take l.one-index l.left) l.right l.found
