use Rattle.grind_cutsat_assignment.proofs.ReadingLemmas.{sides_keep, has_sides, sides_ints}
use Rattle.grind_cutsat_assignment.proofs.readings.add_sides.Goals as goal

pub returns-clause-ints : goal.returns-clause-ints
returns-clause-ints c =
    sides_ints c.args.terms.now.nodes c.args.claim.now c.args.ids.now c.push.new.self c.push-2.new.self c.in-Some.sides.left
    c.in-Some.sides.right c.in-Some.ensures.found.0 c.in_ok-push.ensures.ok c.in_ok-push-2.ensures.ok c.requires.formed
    c.in-Some.ensures.found.1 c.requires.ints

pub returns-clause-keeps : goal.returns-clause-keeps
returns-clause-keeps c =
    sides_keep c.args.terms.now.nodes c.args.claim.now c.args.ids.now c.push.new.self c.push-2.new.self c.in-Some.sides.left
    c.in-Some.sides.right c.in-Some.ensures.found.0 c.in_ok-push.ensures.ok c.in_ok-push-2.ensures.ok

pub returns-clause-has : goal.returns-clause-has
returns-clause-has c =
    has_sides c.args.terms.now.nodes c.args.claim.now c.args.ids.now c.push.new.self c.push-2.new.self c.in-Some.sides.left
    c.in-Some.sides.right c.in-Some.ensures.found.0 c.in_ok-push.ensures.ok c.in_ok-push-2.ensures.ok
