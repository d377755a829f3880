use Rattle.std.specs.Prelude.{◌-◌}
use Rattle.std.proofs.Common.{arith}
use Rattle.grind_needed_edges.proofs.PlanLemmas.{AreCoveredFrom-step}
use Rattle.grind_needed_edges.proofs.plan.Planner.cover_all.Goals as goal

pub cover-requires-clause-place : goal.cover-requires-clause-place
cover-requires-clause-place c =
    omega (arith, c.loop-place.invariant.0.long, c.requires.count, c.loop-place.invariant.1, c.loop-place-test.true)

pub loop-place-preserved : goal.loop-place-preserved
loop-place-preserved c = (
  AreCoveredFrom-step c.args.self.now.terms.now.nodes c.args.self.now.closure.now.edges c.args.self.now.whys.now c.args.plan.now c.loop-place.plan
      c.cover.new.plan c.loop-place.place (c.loop-place.place - 1) (omega (arith, c.loop-place-test.true)) c.loop-place.invariant.0
      c.in_ok-cover.ensures.extends c.in_ok-cover.ensures.ways.ways c.in_ok-cover.ensures.covers,
  omega (arith, c.loop-place.invariant.1),
  c.in_ok-cover.ensures.ways,
)

pub returns-clause-covers : goal.returns-clause-covers
returns-clause-covers c = λ p. c.loop-place.invariant.0.covers p (omega (arith, c.loop-place-test.false))
