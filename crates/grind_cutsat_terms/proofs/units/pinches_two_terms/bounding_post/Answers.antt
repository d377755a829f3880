use Rattle.std.proofs.Common.{sym, ◌∙◌}
use Rattle.grind_cutsat_assignment.specs.Given.{given}
use Rattle.grind_cutsat_terms.proofs.PinchLemmas.{bounding_by}
use Rattle.grind_cutsat_terms.proofs.units.pinches_two_terms.bounding_post.Goals as goal

pub returns : goal.returns
returns c =
    bounding_by (given c.args.view.now.facts.now c.args.view.now.terms.now.nodes c.args.view.now.classes.now.lists) c.args.a c.args.b
    c.in-Some.form (sym c.in_ok-found.ensures ∙ c.in-Some.is) c.post_of.result c.post_of.ensures.found c.post_of.ensures.none
