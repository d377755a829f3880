use Rattle.std.proofs.Common.{Option, subst}
use Rattle.std.specs.Prelude.{MatchOption}
use Rattle.grind_ematch.specs.declared.waiting.Choice.{Choice}
use Rattle.grind_ematch.specs.Waiting.{NoneWaitsBelow, Waits}
use Rattle.grind_ematch.proofs.SceneLemmas.{got_at}
use Rattle.grind_ematch.proofs.WaitingLemmas.{better_next, none_all}
use Rattle.grind_ematch.proofs.waiting.next_place.Goals as goal

pub loop-place-preserved : goal.loop-place-preserved
loop-place-preserved c =
    better_next c.args.waiting.now c.loop-place.place c.index-waiting-place.result c.loop-place.best c.better-best.result
    (got_at c.args.waiting.now c.loop-place.place c.index-waiting-place.result c.loop-place-test.true c.index-waiting-place.is)
    c.loop-place.invariant c.better-best.ensures

pub returns-in_default : goal.returns-in_default
returns-in_default c =
    let below : NoneWaitsBelow c.loop-place.place c.args.waiting.now =
    subst (λ (best : Option Choice). MatchOption best (NoneWaitsBelow c.loop-place.place c.args.waiting.now)
    (λ choice. Waits c.args.waiting.now choice.place)) c.in_default.is c.loop-place.invariant in
    none_all c.args.waiting.now c.loop-place.place c.loop-place-test.false below
