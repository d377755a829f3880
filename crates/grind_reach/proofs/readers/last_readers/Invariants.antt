use Rattle.grind_reach.proofs.ReaderLemmas.{HasReaders}
use Rattle.grind_reach.proofs.readers.last_readers.Given as goal

abbrev pub invariant-loop-number : goal.invariant-loop-number
invariant-loop-number l = HasReaders l.table.nodes l.marks l.readers l.number
