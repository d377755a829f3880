use Rattle.std.specs.Prelude.{MatchOption}
use Rattle.grind_ematch.specs.Waiting.{NoneWaitsBelow, Waits}
use Rattle.grind_ematch.proofs.waiting.next_place.Given as goal

abbrev pub invariant-loop-place : goal.invariant-loop-place
invariant-loop-place l = MatchOption l.best (NoneWaitsBelow l.place l.waiting) (λ choice. Waits l.waiting choice.place)
