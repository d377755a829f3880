use Rattle.grind_cutsat_evidence.proofs.PairLemmas.{iff_via}
use Rattle.grind_cutsat_evidence.proofs.UnreadLemmas.{none_unfit, unfit_divisor}
use Rattle.grind_cutsat_evidence.proofs.unread.has_unfit_divisor.Goals as goal

pub returns-in_default : goal.returns-in_default
returns-in_default c = none_unfit c.args.parts.now c.in_default.ensures.cases

pub returns : goal.returns
returns c =
    iff_via c.is_over.ensures
    (unfit_divisor c.args.parts.now c.in-Some._rest.now c.in-Some._first.now c.shared.result c.in-Some.ensures.cases.0 c.shared.ensures)
