use Rattle.grind_goal_equations.proofs.GivenLemmas.{sources_ends}
use Rattle.grind_goal_equations.proofs.known.known_of.Goals as goal

pub closed-requires : goal.closed-requires
closed-requires c = sources_ends c.args.goal.now c.in_ok-given.given c.in_ok-given.ensures.sources

pub returns-clause-active : goal.returns-clause-active
returns-clause-active c = c.in_ok-closure.ensures.built.active
