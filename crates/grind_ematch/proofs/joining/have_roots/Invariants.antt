use Rattle.std.proofs.Common.{take}
use Rattle.grind_ematch.specs.Buckets.{HasRoots}
use Rattle.grind_ematch.proofs.joining.have_roots.Given as goal

abbrev pub invariant-loop-partial : goal.invariant-loop-partial
invariant-loop-partial l = HasRoots (take l.partial-index l.list) l.variable
