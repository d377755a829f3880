use Rattle.grind_cutsat_assignment.proofs.differences.judged.Goals as goal

pub value_at-requires : goal.value_at-requires
value_at-requires c =
    (c.requires c.in-Some.sides.left c.in-Some.sides.right c.in-Some.ensures.found.0 c.in-Some.ensures.found.1).0

pub value_at-requires-2 : goal.value_at-requires-2
value_at-requires-2 c =
    (c.requires c.in-Some.sides.left c.in-Some.sides.right c.in-Some.ensures.found.0 c.in-Some.ensures.found.1).1
