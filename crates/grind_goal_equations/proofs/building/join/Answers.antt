use Rattle.grind_goal_equations.proofs.BuildingLemmas.{one_more_edge}
use Rattle.grind_goal_equations.proofs.building.join.Goals as goal

pub returns : goal.returns
returns c =
    one_more_edge c.args.terms.now.nodes c.args._given.now c.args.closure.now c.assert_same.new.self c.args.edge.now c.requires.built
    c.requires.ends c.requires.apart c.requires.founded (c.in_ok-assert_same.ensures.joined c.requires.apart)
    c.in_ok-assert_same.ensures.fits
