use Rattle.std.specs.Prelude.{length}
use Rattle.grind_reach.proofs.WalkLemmas.{IsLetGo}
use Rattle.grind_reach.proofs.walk.let_go.Given as goal

abbrev pub invariant-loop-arg : goal.invariant-loop-arg
invariant-loop-arg g l = IsLetGo l.fn.uses l.fn.n l.fn.list l.list l.fn.args l.rest

abbrev pub decreases-loop-arg : goal.decreases-loop-arg
decreases-loop-arg g l = length l.rest
