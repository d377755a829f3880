use Rattle.std.proofs.Common.{ℕ, ◌+◌, ◌<◌, ◌≤◌, subst}
use Rattle.grind_cutsat_assignment.specs.Walks.{Adds, TakenAt, TakenFrom}
use Rattle.grind_cutsat_assignment.proofs.AtomLemmas.{marking_first, marking_next, marking_last, readings_split, readings_none}
use Rattle.grind_cutsat_assignment.proofs.atoms.mark_readings.Goals as goal

pub loop-number-init : goal.loop-number-init
loop-number-init c =
    marking_first c.args.marks.now
    (TakenFrom c.args.readings.now.terms.now.nodes c.args.classes.now.lists c.args.readings.now.forms.now 0)

pub loop-number-preserved : goal.loop-number-preserved
loop-number-preserved c =
    marking_next c.args.marks.now c.loop-number.marks c.mark_active.new.marks
    (TakenFrom c.args.readings.now.terms.now.nodes c.args.classes.now.lists c.args.readings.now.forms.now c.loop-number.number)
    (TakenAt c.args.readings.now.terms.now.nodes c.args.classes.now.lists c.args.readings.now.forms.now c.loop-number.number)
    (TakenFrom c.args.readings.now.terms.now.nodes c.args.classes.now.lists c.args.readings.now.forms.now (c.loop-number.number + 1))
    (TakenFrom c.args.readings.now.terms.now.nodes c.args.classes.now.lists c.args.readings.now.forms.now 0)
    (readings_split c.args.readings.now.terms.now.nodes c.args.classes.now.lists c.args.readings.now.forms.now c.loop-number.number
    (subst (λ (count : ℕ). c.loop-number.number < count) c.len-number-end.ensures.value c.loop-number-test.true))
    (subst (λ (k : ℕ). Adds c.loop-number.marks c.mark_active.new.marks
    (TakenAt c.args.readings.now.terms.now.nodes c.args.classes.now.lists c.args.readings.now.forms.now k)) c.new.ensures
    c.mark_active.ensures)
    c.loop-number.invariant

pub returns : goal.returns
returns c =
    marking_last c.args.marks.now c.loop-number.marks
    (TakenFrom c.args.readings.now.terms.now.nodes c.args.classes.now.lists c.args.readings.now.forms.now c.loop-number.number)
    (TakenFrom c.args.readings.now.terms.now.nodes c.args.classes.now.lists c.args.readings.now.forms.now 0)
    (readings_none c.args.readings.now.terms.now.nodes c.args.classes.now.lists c.args.readings.now.forms.now c.loop-number.number
    (subst (λ (count : ℕ). count ≤ c.loop-number.number) c.len-number-end.ensures.value c.loop-number-test.false))
    c.loop-number.invariant
