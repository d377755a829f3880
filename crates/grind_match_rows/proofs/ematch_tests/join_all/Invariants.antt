use Rattle.grind_scenes.specs.Scenes.{AreClassesOf}
use Rattle.grind_match_rows.proofs.ematch_tests.join_all.Given as goal

abbrev pub invariant-loop-pair : goal.invariant-loop-pair
invariant-loop-pair l = AreClassesOf l.terms.nodes l.classes.lists
