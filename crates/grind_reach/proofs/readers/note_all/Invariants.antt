use Rattle.std.specs.Prelude.{length}
use Rattle.grind_reach.proofs.ReaderLemmas.{IsNoted}
use Rattle.grind_reach.proofs.readers.note_all.Given as goal

abbrev pub invariant-loop-number : goal.invariant-loop-number
invariant-loop-number l = IsNoted l.fn.readers l.readers l.fn.reader l.fn.numbers l.rest

abbrev pub decreases-loop-number : goal.decreases-loop-number
decreases-loop-number l = length l.rest
