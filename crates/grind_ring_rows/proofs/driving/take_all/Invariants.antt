use Rattle.grind_scenes.specs.Scenes.{AreClassesOf}
use Rattle.grind_ring_rows.proofs.driving.take_all.Given as goal

abbrev pub invariant-loop-hyp : goal.invariant-loop-hyp
invariant-loop-hyp l = AreClassesOf l.terms.nodes l.classes.lists
