use Rattle.grind_cutsat_evidence.proofs.PairLemmas.{at_upper}
use Rattle.grind_cutsat_evidence.proofs.pairs.unresolved_by.Goals as goal

pub returns : goal.returns
returns c = at_upper c.args.view.now.facts.now c.args.claim.now c.in-AtMost.upper c.in-AtMost.is c.in_ok-found.found c.in_ok-found.ensures
