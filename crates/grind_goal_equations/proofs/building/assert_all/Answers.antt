use Rattle.grind_goal_equations.specs.Building.{HasEnds}
use Rattle.grind_goal_equations.proofs.BuildingLemmas.{All-contains, first_among, IsAsserting-start, IsAsserting-step, IsAsserting-end}
use Rattle.grind_goal_equations.proofs.building.assert_all.Goals as goal

pub loop-edge-init : goal.loop-edge-init
loop-edge-init c = IsAsserting-start c.args.terms.now.nodes c.args.given.now c.args.closure.now c.requires.built

pub assert_given-requires-clause-ends : goal.assert_given-requires-clause-ends
assert_given-requires-clause-ends c =
    All-contains (HasEnds c.args.terms.now.nodes) c.args.given.now c.in-Some.edge.now c.requires.ends
    (first_among c.args.given.now c.loop-edge.rest.now c.in-Some.tail.now c.in-Some.edge.now c.in-Some.ensures.cases.0 c.loop-edge.invariant.among)

pub assert_given-requires-clause-among : goal.assert_given-requires-clause-among
assert_given-requires-clause-among c =
    first_among c.args.given.now c.loop-edge.rest.now c.in-Some.tail.now c.in-Some.edge.now c.in-Some.ensures.cases.0 c.loop-edge.invariant.among

pub loop-edge-preserved : goal.loop-edge-preserved
loop-edge-preserved c =
    IsAsserting-step c.args.terms.now.nodes c.args.given.now c.loop-edge.rest.now c.in-Some.tail.now c.in-Some.edge.now c.loop-edge.closure
    c.assert_given.new.closure c.in-Some.ensures.cases.0 c.loop-edge.invariant c.in_ok-assert_given.ensures.built
    c.in_ok-assert_given.ensures.keeps c.in_ok-assert_given.ensures.asserted

pub returns-clause-asserted : goal.returns-clause-asserted
returns-clause-asserted c =
    IsAsserting-end c.args.terms.now.nodes c.args.given.now c.loop-edge.rest.now c.loop-edge.closure c.in_default.ensures.cases c.loop-edge.invariant
