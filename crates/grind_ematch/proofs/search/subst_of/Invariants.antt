use Rattle.std.proofs.Common.{◌≡◌, Some, take, map}
use Rattle.grind_ematch.proofs.search.subst_of.Given as goal

abbrev pub invariant-loop-slot : goal.invariant-loop-slot
invariant-loop-slot l = map Some l.subst ≡ take l.slot-index l.slots
