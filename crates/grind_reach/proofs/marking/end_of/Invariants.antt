use Rattle.std.specs.Prelude.{length}
use Rattle.grind_reach.proofs.MarkLemmas.{IsEnd}
use Rattle.grind_reach.proofs.marking.end_of.Given as goal

abbrev pub invariant-loop-number : goal.invariant-loop-number
invariant-loop-number l = IsEnd l.fn.numbers l.rest l.end

abbrev pub decreases-loop-number : goal.decreases-loop-number
decreases-loop-number l = length l.rest
