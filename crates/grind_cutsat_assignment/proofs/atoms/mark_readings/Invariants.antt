use Rattle.grind_cutsat_assignment.specs.Walks.{IsMarking, TakenFrom}
use Rattle.grind_cutsat_assignment.proofs.atoms.mark_readings.Given as goal

abbrev pub invariant-loop-number : goal.invariant-loop-number
invariant-loop-number l =
    IsMarking l.fn.marks l.marks (TakenFrom l.readings.terms.now.nodes l.classes.lists l.readings.forms.now l.number)
    (TakenFrom l.readings.terms.now.nodes l.classes.lists l.readings.forms.now 0)
