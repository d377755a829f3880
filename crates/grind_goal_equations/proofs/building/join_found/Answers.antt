use Rattle.grind_goal_equations.proofs.BuildingLemmas.{congruent_founded, congruent_within}
use Rattle.grind_goal_equations.proofs.building.join_found.Goals as goal

pub join-requires-clause-founded : goal.join-requires-clause-founded
join-requires-clause-founded c =
    congruent_founded c.args.terms.now.nodes c.args.given.now c.args.closure.now c.args.found.left c.args.found.right c.classes-classes.ensures.tied
    c.requires.congruent

pub join-requires-clause-ends : goal.join-requires-clause-ends
join-requires-clause-ends c =
    congruent_within c.args.terms.now.nodes c.args.closure.now.lists c.args.found.left c.args.found.right c.requires.congruent
