use Rattle.grind_ematch.proofs.ThinningLemmas.{IsThinning-first, IsThinning-next, IsThinning-last}
use Rattle.grind_ematch.proofs.thinning.least_of.Goals as goal

pub loop-partial-init : goal.loop-partial-init
loop-partial-init c = IsThinning-first c.args.list c.new-least.result.entries c.new-least.ensures.empty

pub loop-partial-preserved : goal.loop-partial-preserved
loop-partial-preserved c =
    IsThinning-next c.args.list c.loop-partial.rest c.pop.new.self c.loop-partial.least.entries c.keep.new.least.entries
    c.in-Some.partial c.in-Some.ensures c.in_ok-keep.ensures c.loop-partial.invariant

pub returns : goal.returns
returns c =
    IsThinning-last c.args.list c.loop-partial.rest c.loop-partial.least.entries c.in_default.ensures.0 c.loop-partial.invariant
