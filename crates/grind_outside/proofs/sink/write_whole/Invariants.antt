use Rattle.std.proofs.Common.{◌≡◌, List, ℕ, ◌++◌, length}
use Rattle.grind_outside.specs.Outside.{appended}
use Rattle.grind_outside.proofs.sink.write_whole.Given as goal

-- the bytes that are done stand before the rest and were written, and no fault was counted
abbrev pub invariant-loop-rest : goal.invariant-loop-rest
invariant-loop-rest g l =
    ((done : List ℕ) × (l.bytes ≡ done ++ l.rest)
    × (g.K.Sink.written l.sink ≡ appended (g.K.Sink.written l.fn.sink) done))
    × (g.K.Sink.faults l.sink ≡ g.K.Sink.faults l.fn.sink)

abbrev pub decreases-loop-rest : goal.decreases-loop-rest
decreases-loop-rest g l = length l.rest
