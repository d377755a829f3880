use Rattle.std.proofs.Common.{◌≡◌, take}
use Rattle.grind_ematch.specs.Buckets.{key_at}
use Rattle.grind_ematch.proofs.buckets.key_of.Given as goal

abbrev pub invariant-loop-variable : goal.invariant-loop-variable
invariant-loop-variable l = l.key ≡ key_at l.slots (take l.variable-index l.variables)
