use Rattle.std.proofs.Common.{◌∙◌, List, Bool, false, length, ap, subst}
use Rattle.std.proofs.lemmas.List.{length-replicate}
use Rattle.grind_cutsat_assignment.specs.Given.{given}
use Rattle.grind_cutsat_assignment.specs.Walks.{Marks}
use Rattle.grind_cutsat_assignment.proofs.AtomLemmas.{unmarked_at}
use Rattle.grind_cutsat_assignment.proofs.AssignLemmas.{marks_of_atoms}
use Rattle.grind_cutsat_assignment.proofs.atoms.atoms.Goals as goal

pub returns-clause-marks : goal.returns-clause-marks
returns-clause-marks c =
    let count = ap (λ (marks : List Bool). length marks) c.in_ok-marks.ensures ∙ length-replicate c.len.result false ∙ c.len.ensures.value in
    marks_of_atoms (given c.args.facts.now c.args.readings.now.terms.now.nodes c.args.classes.now.lists) c.args.readings.now.forms.now
    c.in_ok-marks.marks c.mark_facts.new.marks c.mark_readings.new.marks c.requires.fits c.requires.read count
    (λ n marked. unmarked_at c.len.result n (subst (λ (marks : List Bool). Marks marks n) c.in_ok-marks.ensures marked))
    c.mark_facts.ensures.marks c.mark_readings.ensures
