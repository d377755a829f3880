use Rattle.std.proofs.Common.{◌≡◌, length}
use Rattle.grind_theory.specs.Theories.{AreDeclared}
use Rattle.grind_answers.specs.Written.{AwaitsGoals}
use Rattle.grind_answers.proofs.WrittenLemmas.{IsOnTheWay}
use Rattle.grind_cli.proofs.writing.write_blocks.Given as goal

abbrev pub invariant-loop-goal : goal.invariant-loop-goal
invariant-loop-goal g l = record {
  way : IsOnTheWay l.contents.signature.now l.contents.lemmas.now l.contents.goals.now (g.K.Sink.written l.fn.out) l.rest (g.K.Sink.written l.out) l.closed;
  awaits : AwaitsGoals l.contents.signature.now l.contents.lemmas.now l.contents.goals.now l.rest (g.K.Sink.written l.out);
  declared : AreDeclared l.contents.signature.now l.rest;
  faults : g.K.Sink.faults l.out ≡ g.K.Sink.faults l.fn.out;
}

abbrev pub decreases-loop-goal : goal.decreases-loop-goal
decreases-loop-goal g l = length l.rest
