use Rattle.grind_ematch.proofs.BucketLemmas.{IsSorting-first, IsSorting-next, IsSorting-last}
use Rattle.grind_ematch.proofs.buckets.buckets.Goals as goal

pub loop-partial-init : goal.loop-partial-init
loop-partial-init c = IsSorting-first c.args.variables.now c.args.list c.new-found.result.entries c.new-found.ensures.empty

pub loop-partial-preserved : goal.loop-partial-preserved
loop-partial-preserved c =
    IsSorting-next c.args.variables.now c.args.list c.loop-partial.rest c.pop.new.self c.loop-partial.found.entries
    c.put.new.found.entries c.in-Some.partial c.in-Some.ensures c.in_ok-put.ensures c.loop-partial.invariant

pub returns : goal.returns
returns c =
    IsSorting-last c.args.variables.now c.args.list c.loop-partial.rest c.loop-partial.found.entries c.in_default.ensures.0
    c.loop-partial.invariant
