use Rattle.grind_cutsat_assignment.specs.Given.{given}
use Rattle.grind_cutsat_terms.proofs.SettleLemmas.{unknown_found}
use Rattle.grind_cutsat_terms.proofs.units.settles.settled_at.Goals as goal

pub returns : goal.returns
returns c =
    unknown_found (given c.args.view.now.facts.now c.args.view.now.terms.now.nodes c.args.view.now.classes.now.lists) c.args.view.now.next c.args.node
    (c.is_unknown.ensures.0 c.if-not-is_unknown.false) c.in_ok-found.found c.in_ok-found.ensures
