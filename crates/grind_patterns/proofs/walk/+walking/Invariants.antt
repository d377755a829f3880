use Rattle.std.proofs.Common.{drop}
use Rattle.grind_patterns.proofs.WalkLemmas.{IsWalking}
use Rattle.grind_patterns.proofs.walk.+walking.Given as goal

abbrev pub invariant-walk_each-loop-scheme : goal.invariant-walk_each-loop-scheme
invariant-walk_each-loop-scheme l =
    IsWalking l.fn.taken l.fn.schemes l.taken (drop l.scheme-index l.fn.schemes)
