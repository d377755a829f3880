use Rattle.std.proofs.Common.{arith}
use Rattle.grind_needed_edges.proofs.BoundLemmas.{IsBoundSoFar-step}
use Rattle.grind_needed_edges.proofs.plan.bound_of.Goals as goal

pub loop-place-preserved-then-bound-above : goal.loop-place-preserved-then-bound-above
loop-place-preserved-then-bound-above c =
    IsBoundSoFar-step _ c.loop-place.rest.now c.in-Some.tail.now c.in-Some.place.now c.loop-place.bound _ c.in-Some.ensures.cases.0
    (omega arith) (omega arith) (λ k low high. omega arith) c.loop-place.invariant

pub loop-place-preserved : goal.loop-place-preserved
loop-place-preserved c =
    IsBoundSoFar-step _ c.loop-place.rest.now c.in-Some.tail.now c.in-Some.place.now c.loop-place.bound _ c.in-Some.ensures.cases.0
    (omega arith) (omega arith) (λ k low high. low) c.loop-place.invariant
