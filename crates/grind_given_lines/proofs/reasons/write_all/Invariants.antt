use Rattle.grind_given_lines.specs.Writing.{WritesRoot}
use Rattle.grind_given_lines.specs.Written.{AreWritten}
use Rattle.grind_given_lines.proofs.reasons.write_all.Given as goal

abbrev pub invariant-loop-k : goal.invariant-loop-k
invariant-loop-k l = record { root : WritesRoot l.fn.writer l.proof; written : AreWritten l.fn.writer.goal.now l.proof l.whys l.k }
