use Rattle.grind_cutsat_assignment.specs.Walks.{TakesPart, TakenByReading}
use Rattle.grind_cutsat_assignment.proofs.AtomLemmas.{adds_nothing, adds_as, reading_takes, no_reading}
use Rattle.grind_cutsat_assignment.proofs.atoms.mark_reading.Goals as goal

pub returns-in_default : goal.returns-in_default
returns-in_default c =
    adds_nothing c.args.marks.now (TakenByReading c.args.forms.now c.args.node)
    (λ n less. no_reading c.args.forms.now c.args.node c.in_default.ensures n)

pub returns : goal.returns
returns c =
    adds_as c.args.marks.now c.mark_parts.new.marks (TakesPart c.parts.result.now) (TakenByReading c.args.forms.now c.args.node)
    (reading_takes c.args.forms.now c.args.node c.in-Some.form.now c.parts.result.now c.in-Some.ensures c.parts.ensures.value)
    c.mark_parts.ensures
