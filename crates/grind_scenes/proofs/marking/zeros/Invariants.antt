use Rattle.std.specs.Prelude.{◌≡◌, replicate}
use Rattle.grind_scenes.proofs.marking.zeros.Given as goal

abbrev pub invariant-loop-n : goal.invariant-loop-n
invariant-loop-n l = l.generations ≡ replicate l._n 0
