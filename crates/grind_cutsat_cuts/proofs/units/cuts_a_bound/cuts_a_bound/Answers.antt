use Rattle.grind_cutsat_assignment.specs.Given.{given}
use Rattle.grind_cutsat_cuts.proofs.CutLemmas.{found_cuts}
use Rattle.grind_cutsat_cuts.proofs.units.cuts_a_bound.cuts_a_bound.Goals as goal

pub returns : goal.returns
returns c =
    found_cuts (given c.args.view.now.facts.now c.args.view.now.terms.now.nodes c.args.view.now.classes.now.lists)
    c.args.view.now.next c.in_ok-found.found c.in_ok-found.ensures
