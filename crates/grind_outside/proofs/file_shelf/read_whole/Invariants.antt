use Rattle.std.proofs.Common.{◌≤◌, ◌-◌, ◌^◌, length}
use Rattle.std.specs.Io.KnownBytes.{Consumes}
use Rattle.grind_outside.proofs.file_shelf.read_whole.Given as goal

-- what the file had is the bytes so far, and what it has left
abbrev pub invariant-loop-bytes : goal.invariant-loop-bytes
invariant-loop-bytes g l =
    (length l.bytes ≤ l.limit)
    × Consumes (g.F.Read.remaining l.fn.file) (g.F.Read.remaining l.file) l.bytes

abbrev pub decreases-loop-bytes : goal.decreases-loop-bytes
decreases-loop-bytes g l = 2 ^ 32 - length l.bytes
