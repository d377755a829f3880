use Rattle.std.proofs.Common.{take}
use Rattle.grind_ematch.specs.Partials.{ListsClasses, ListsOneOf}
use Rattle.grind_ematch.proofs.walk.+walking.Given as goal

abbrev pub invariant-at_args-loop-k : goal.invariant-at_args-loop-k
invariant-at_args-loop-k l = ListsClasses l.query l.from (take l.k l.args) (take l.k l.ids) l.found

abbrev pub invariant-at_nodes-loop-n : goal.invariant-at_nodes-loop-n
invariant-at_nodes-loop-n l = ListsOneOf l.query l.pattern (take l.n-index l.nodes) l.found
