use Rattle.std.proofs.Common.{take}
use Rattle.grind_ematch.specs.Partials.{ListsAllOfOne}
use Rattle.grind_ematch.proofs.patterns.by_lists.Given as goal

abbrev pub invariant-loop-patterns : goal.invariant-loop-patterns
invariant-loop-patterns l = ListsAllOfOne l.query (take l.patterns-index l.lists) l.found
