use Rattle.std.specs.Prelude.{refl}
use Rattle.grind_truth_prop.proofs.UnitLemmas.{join_sides, part_sides, no_sides_at}
use Rattle.grind_truth_prop.proofs.units.sides.has_sides.Goals as goal

pub returns-then-has_to_join-clause-yes : goal.returns-then-has_to_join-clause-yes
returns-then-has_to_join-clause-yes c = λ _.
    join_sides c.args.known.now c.args.classes.now.lists c.args.n c.in-Some.sides.left c.in-Some.sides.right c.in-Some.ensures.found
    (c.if-has_to_join.ensures.yes refl)

pub returns-clause-yes : goal.returns-clause-yes
returns-clause-yes c = λ yes.
    part_sides c.args.known.now c.args.classes.now.lists c.args.n c.in-Some.sides.left c.in-Some.sides.right c.in-Some.ensures.found
    (c.has_to_part.ensures.yes yes)

pub returns-clause-no : goal.returns-clause-no
returns-clause-no c = λ no.
    no_sides_at c.args.known.now c.args.classes.now.lists c.args.n c.in-Some.sides.left c.in-Some.sides.right c.in-Some.ensures.found
    (c.if-has_to_join.ensures.no refl) (c.has_to_part.ensures.no no)
