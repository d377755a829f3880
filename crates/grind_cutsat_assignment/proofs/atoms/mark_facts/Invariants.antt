use Rattle.std.proofs.Common.{length}
use Rattle.grind_cutsat_assignment.specs.Walks.{IsMarking, TakenAmong, AreForms}
use Rattle.grind_cutsat_assignment.proofs.atoms.mark_facts.Given as goal

abbrev pub invariant-loop-fact : goal.invariant-loop-fact
invariant-loop-fact l = record {
  marks : IsMarking l.fn.marks l.marks (TakenAmong l.rest) (TakenAmong l.fn.facts);
  forms : AreForms l.rest → AreForms l.fn.facts;
}

abbrev pub decreases-loop-fact : goal.decreases-loop-fact
decreases-loop-fact l = length l.rest
