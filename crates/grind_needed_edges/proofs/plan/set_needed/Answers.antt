use Rattle.grind_needed_edges.proofs.PlanLemmas.{set_step}
use Rattle.grind_needed_edges.proofs.plan.set_needed.Goals as goal

pub loop-place-preserved : goal.loop-place-preserved
loop-place-preserved c =
    set_step c.loop-place.needed c.set.new.self c.loop-place.rest.now c.in-Some.tail.now c.in-Some.place.now _ c.in-Some.ensures.cases.0
    c.set.ensures c.loop-place.invariant
