use Rattle.grind_ematch.specs.Index.{IsIndexBelow}
use Rattle.grind_ematch.proofs.index.index_of.Given as goal

abbrev pub invariant-loop-number : goal.invariant-loop-number
invariant-loop-number l = IsIndexBelow l.query.scene l.number l.index.entries
