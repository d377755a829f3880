use Rattle.grind_cutsat_assignment.specs.Given.{given}
use Rattle.grind_cutsat_cuts.proofs.ResolveLemmas.{found_bounds}
use Rattle.grind_cutsat_cuts.proofs.units.resolves_two_bounds.resolves_two_bounds.Goals as goal

pub returns : goal.returns
returns c =
    found_bounds (given c.args.view.now.facts.now c.args.view.now.terms.now.nodes c.args.view.now.classes.now.lists)
    c.args.view.now.next c.in_ok-found.found c.in_ok-found.ensures
