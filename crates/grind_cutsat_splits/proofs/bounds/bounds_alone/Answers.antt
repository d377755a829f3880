use Rattle.std.proofs.Common.{refl}
use Rattle.grind_cutsat_splits.proofs.BoundsLemmas.{bounds_begin, bounds_next, bounds_end}
use Rattle.grind_cutsat_splits.proofs.bounds.bounds_alone.Goals as goal

pub loop-fact-init : goal.loop-fact-init
loop-fact-init c = bounds_begin c.args.facts.now c.args.facts.now c.new-bounds.result c.new-bounds.ensures refl

pub loop-fact-preserved : goal.loop-fact-preserved
loop-fact-preserved c =
    bounds_next c.args.facts.now c.loop-fact.rest.now c.in-Some.tail.now c.loop-fact.bounds c.keep.new.bounds c.in-Some.fact.now
    c.in-Some.ensures.cases.0 c.loop-fact.invariant c.in_ok-keep.ensures

pub returns : goal.returns
returns c =
    bounds_end c.args.facts.now c.loop-fact.rest.now c.loop-fact.bounds c.in_default.ensures.cases c.loop-fact.invariant
