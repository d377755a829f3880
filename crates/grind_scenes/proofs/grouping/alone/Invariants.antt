use Rattle.grind_scenes.specs.Scenes.{AreAlone}
use Rattle.grind_scenes.proofs.grouping.alone.Given as goal

abbrev pub invariant-loop-n : goal.invariant-loop-n
invariant-loop-n l = AreAlone l.classes.lists l.n
