use Rattle.grind_cutsat_terms.proofs.SettleLemmas.{found_of_sides}
use Rattle.grind_cutsat_terms.proofs.units.parts_an_equation.parts_an_equation.Goals as goal

pub returns : goal.returns
returns c =
    found_of_sides c.args.view.now.terms.now.nodes c.args.view.now.facts.now c.args.node c.in-Some.sides.left c.in-Some.sides.right
    c.in-Some.ensures.some c.args.view.now.next c.in_ok-found.found c.in_ok-found.ensures
