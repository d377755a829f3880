use Rattle.std.proofs.Common.{take}
use Rattle.grind_ematch.specs.Partials.{AreMatchesOf}
use Rattle.grind_ematch.proofs.search.matches_of.Given as goal

abbrev pub invariant-loop-partial : goal.invariant-loop-partial
invariant-loop-partial l = AreMatchesOf l.theorem (take l.partial-index l.fn.list) l.found
