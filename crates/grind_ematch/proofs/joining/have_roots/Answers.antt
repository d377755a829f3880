use Rattle.std.proofs.Common.{List, subst}
use Rattle.grind_ematch.specs.declared.partial.Partial.{Partial}
use Rattle.grind_ematch.specs.Buckets.{HasRoots}
use Rattle.grind_ematch.proofs.Along.{none_in, take_whole}
use Rattle.grind_ematch.proofs.BucketLemmas.{roots_next, root_is_some}
use Rattle.grind_ematch.proofs.joining.have_roots.Goals as goal

pub loop-partial-init : goal.loop-partial-init
loop-partial-init c = λ partial there. absurd (none_in partial there)

pub loop-partial-preserved : goal.loop-partial-preserved
loop-partial-preserved c =
    roots_next c.args.list.now c.loop-partial.partial-index c.args.variable c.partial-item.result c.loop-partial-test.true
    c.partial-item.is
    (root_is_some c.as_slice.result.now c.partial-item.result.slots c.args.variable c.in-Some._root c.root_of.result
    c.as_slice.ensures.value c.root_of.ensures c.in-Some.is)
    c.loop-partial.invariant

pub returns : goal.returns
returns c = λ yes'.
    subst (λ (list : List Partial). HasRoots list c.args.variable)
    (take_whole c.args.list.now c.loop-partial.partial-index c.loop-partial-test.false) c.loop-partial.invariant
