use Rattle.grind_truth_tables.proofs.NeededLemmas.{IsNaming}
use Rattle.grind_truth_tables.proofs.needed.named.Given as goal

abbrev pub invariant-loop-premise : goal.invariant-loop-premise
invariant-loop-premise l = IsNaming l.fn.claim l.fn.premises l.premise-index l.set.keys
