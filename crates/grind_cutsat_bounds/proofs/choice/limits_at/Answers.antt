use Rattle.grind_cutsat_bounds.specs.Evaluations.{value_of}
use Rattle.grind_cutsat_bounds.proofs.ChoiceLemmas.{limits_next}
use Rattle.grind_cutsat_bounds.proofs.choice.limits_at.Goals as goal

pub loop-fact-preserved : goal.loop-fact-preserved
loop-fact-preserved c =
    limits_next (value_of c.args.values.now) c.args.x c.args.facts.now c.loop-fact.rest.now c.in-Some.tail.now c.in-Some.fact.now
    c.in-Some.ensures.cases.0 c.loop-fact.limits c.in-Some-narrowed.next c.in-Some-narrowed.ensures.some c.loop-fact.invariant
