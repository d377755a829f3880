use Rattle.grind_goal_equations.proofs.BuildingLemmas.{IsClosure-from}
use Rattle.grind_goal_equations.proofs.building.closure_of.Goals as goal

pub returns : goal.returns
returns c =
    IsClosure-from c.args.terms.now.nodes c.args.given.now c.assert_all.new.closure c.settle.new.closure c.in_ok-assert_all.ensures.asserted
    c.in_ok-settle.ensures.built c.in_ok-settle.ensures.keeps c.in_ok-settle.ensures.rest
