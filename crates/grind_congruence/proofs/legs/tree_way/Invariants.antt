use Rattle.std.specs.Prelude.{ℕ, List, ◌++◌}
use Rattle.grind_congruence.specs.Forest.{IsTreeWay, Fills, AreJoinedLegs, weight}
use Rattle.grind_congruence.proofs.legs.tree_way.Given as goal

abbrev pub invariant-loop-leg : goal.invariant-loop-leg
invariant-loop-leg l = record {
  fills : (rest : List ℕ) → Fills l.edges l.forest l.legs rest → IsTreeWay l.edges l.forest l.fn.a l.fn.b (l.way ++ rest);
  joined : AreJoinedLegs l.forest l.legs;
}

abbrev pub decreases-loop-leg : goal.decreases-loop-leg
decreases-loop-leg l = weight l.forest l.legs
