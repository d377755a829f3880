use Rattle.std.specs.Prelude.{All}
use Rattle.grind_goal_equations.specs.Given.{IsOfSource, CoversBelow}
use Rattle.grind_goal_equations.proofs.given.given_by.Given as goal

abbrev pub invariant-loop-k : goal.invariant-loop-k
invariant-loop-k l = record { sources : All (IsOfSource l.fn.goal) l.given; covers : CoversBelow l.fn.goal l.given l.k }
