use Rattle.std.proofs.Common.{take}
use Rattle.grind_ematch.specs.Waiting.{AllWait}
use Rattle.grind_ematch.proofs.patterns.at_each.Given as goal

abbrev pub invariant-loop-pattern : goal.invariant-loop-pattern
invariant-loop-pattern l = AllWait l.query (take l.pattern-index l.patterns) l.lists
