use Rattle.grind_cutsat_assignment.specs.Walks.{TakesPart, TakenByClaim}
use Rattle.grind_cutsat_assignment.proofs.AtomLemmas.{adds_as, claim_takes, claim_forms}
use Rattle.grind_cutsat_assignment.proofs.atoms.mark_claim.Goals as goal

pub returns-clause-marks : goal.returns-clause-marks
returns-clause-marks c =
    adds_as c.args.marks.now c.mark_parts.new.marks (TakesPart c.parts.result.now) (TakenByClaim c.args.claim.now)
    (claim_takes c.args.claim.now c.in-AtMost.form c.parts.result.now c.in-AtMost.is c.parts.ensures.value) c.mark_parts.ensures

pub returns-clause-form : goal.returns-clause-form
returns-clause-form c = claim_forms c.args.claim.now c.in-AtMost.form c.in-AtMost.is c.parts.ensures.keeps
