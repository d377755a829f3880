use Rattle.std.specs.Prelude.{Contains}
use Rattle.std.proofs.Common.{inl}
use Rattle.grind_goal_equations.proofs.FactLemmas.{stands_in}
use Rattle.grind_case_split.proofs.plain.solve_goal.Goals as goal

pub returns-in-Some : goal.returns-in-Some
returns-in-Some c =
    let has : Contains c.args.goal.now.hyps c.args.goal.now.show =
    stands_in c.args.goal.now.hyps c.in-Some.k c.args.goal.now.show c.in-Some.ensures.some in
    (inl has, c.in_ok-proof.ensures)
