use Rattle.std.proofs.Common.{sym, true≢false}
use Rattle.grind_ematch.specs.Thinning.{entry}
use Rattle.grind_ematch.proofs.ThinningLemmas.{IsListing-first, IsListing-next, IsListing-last, none_left}
use Rattle.grind_ematch.proofs.thinning.listed.Goals as goal

pub loop-slots-init : goal.loop-slots-init
loop-slots-init c = IsListing-first c.args.least.entries c.new-found.result c.new-found.ensures

pub loop-slots-preserved : goal.loop-slots-preserved
loop-slots-preserved c =
    IsListing-next c.args.least.entries c.loop-slots.rest.entries c.pop.new.self.entries c.loop-slots.found c.push.new.self
    (entry c.in-Some.slots c.in-Some.generation) c.in-Some.ensures.entries c.in_ok-push.ensures.ok c.loop-slots.invariant

pub returns : goal.returns
returns c =
    IsListing-last c.args.least.entries c.loop-slots.rest.entries c.loop-slots.found
    (none_left c.loop-slots.rest.entries (λ some. true≢false (sym (c.in_default.ensures.found.1 some))))
    c.loop-slots.invariant
