use Rattle.std.proofs.Common.{rules}
use Rattle.grind_patterns.specs.Patterns.{hypotheses_of}
use Rattle.grind_patterns.proofs.WalkLemmas.{IsWalking-first, IsWalking-next, IsWalking-last}
use Rattle.grind_patterns.proofs.body.walk_hypotheses.Goals as goal

pub loop-hyp-init : goal.loop-hyp-init
loop-hyp-init c = IsWalking-first c.args.taken.now (hypotheses_of c.args.body.now)

pub loop-hyp-preserved : goal.loop-hyp-preserved
loop-hyp-preserved c =
    IsWalking-next c.args.taken.now (hypotheses_of c.args.body.now) c.loop-hyp.taken (hypotheses_of c.loop-hyp.rest.now)
    (hypotheses_of c.in-Some.behind.now) c.walk.new.taken c.in-Some.hyp.now c.in-Some.ensures.hyps c.in_ok-walk.ensures
    c.loop-hyp.invariant

pub returns : goal.returns
returns c =
    IsWalking-last c.args.taken.now (hypotheses_of c.args.body.now) c.loop-hyp.taken (hypotheses_of c.loop-hyp.rest.now)
    (c.in_default.ensures.no_hyps (search rules)) c.loop-hyp.invariant
