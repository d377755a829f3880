use Rattle.grind_cutsat_units.proofs.StrictLemmas.{found_of_two}
use Rattle.grind_cutsat_units.proofs.units.strengthens_a_bound.difference_at.Goals as goal

pub returns : goal.returns
returns c =
    found_of_two c.args.view.now.terms.now.nodes c.args.view.now.facts.now c.args.claim.now c.in-Differ.a c.in-Differ.b c.in-Differ.is
    c.args.view.now.next c.in_ok-found.found c.in_ok-found.ensures
