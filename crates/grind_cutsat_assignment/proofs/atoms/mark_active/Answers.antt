use Rattle.std.proofs.Common.{sym, ◌∙◌}
use Rattle.std.proofs.lemmas.Bool.{false≢true}
use Rattle.grind_cutsat_assignment.specs.Walks.{TakenAt, TakenByReading}
use Rattle.grind_cutsat_assignment.proofs.AtomLemmas.{adds_as, adds_nothing}
use Rattle.grind_cutsat_assignment.proofs.atoms.mark_active.Goals as goal

pub returns-then-not-is_active : goal.returns-then-not-is_active
returns-then-not-is_active c =
    adds_nothing c.args.marks.now (TakenAt c.args.readings.now.terms.now.nodes c.args.classes.now.lists c.args.readings.now.forms.now c.args.node)
    (λ n less taken. false≢true (sym c.if-not-is_active.true ∙ c.is_active.ensures.value.1 taken.0))

pub returns-then-not-is_number : goal.returns-then-not-is_number
returns-then-not-is_number c =
    adds_nothing c.args.marks.now (TakenAt c.args.readings.now.terms.now.nodes c.args.classes.now.lists c.args.readings.now.forms.now c.args.node)
    (λ n less taken. false≢true (sym c.if-not-is_number.true ∙ c.is_number.ensures.1 taken.1))

pub returns : goal.returns
returns c =
    let active = c.is_active.ensures.value.0 c.if-not-is_active.false in
    let number = c.is_number.ensures.0 c.if-not-is_number.false in
    adds_as c.args.marks.now c.mark_reading.new.marks (TakenByReading c.args.readings.now.forms.now c.args.node)
    (TakenAt c.args.readings.now.terms.now.nodes c.args.classes.now.lists c.args.readings.now.forms.now c.args.node)
    (λ n. (λ taken. (active, number, taken), λ taken. taken.2)) c.mark_reading.ensures
