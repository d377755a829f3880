use Rattle.grind_scenes.specs.Scenes.{AreClassesOf}
use Rattle.grind_agent_bench.proofs.scenes.join_hypotheses.Given as goal

abbrev pub invariant-loop-hyp : goal.invariant-loop-hyp
invariant-loop-hyp l = AreClassesOf l.terms.nodes l.classes.lists
