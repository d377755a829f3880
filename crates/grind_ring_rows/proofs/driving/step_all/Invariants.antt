use Rattle.grind_scenes.specs.Scenes.{AreClassesOf}
use Rattle.grind_ring_rows.proofs.driving.step_all.Given as goal

abbrev pub invariant-loop : goal.invariant-loop
invariant-loop l = AreClassesOf l.terms.nodes l.classes.lists
