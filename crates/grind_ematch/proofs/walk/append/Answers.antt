use Rattle.grind_ematch.proofs.JoinLemmas.{IsGathering-next, IsGathering-last}
use Rattle.grind_ematch.proofs.walk.append.Goals as goal

pub loop-partial-preserved : goal.loop-partial-preserved
loop-partial-preserved c =
    IsGathering-next c.args.found.now c.args.list c.loop-partial.found c.loop-partial.rest c.push.new.self c.pop.new.self
    c.in-Some.partial c.in-Some.ensures c.in_ok-push.ensures.ok c.loop-partial.invariant

pub returns : goal.returns
returns c =
    IsGathering-last c.args.found.now c.args.list c.loop-partial.found c.loop-partial.rest c.in_default.ensures.0
    c.loop-partial.invariant
