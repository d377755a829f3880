use Rattle.std.proofs.Common.{[], subst}
use Rattle.grind_term_graph.specs.Terms.{Terms}
use Rattle.grind_term_graph.specs.Shape.{IsTable, IsBegun}
use Rattle.grind_case_split.specs.Congruences.{IsRightFor}
use Rattle.grind_answers.proofs.SolveLemmas.{Known, ProvesGoal-typed, not_entailed}
use Rattle.grind_cli.proofs.solve.solve_goal.Goals as goal

pub returns-in-Closed : goal.returns-in-Closed
returns-in-Closed c =
    let known : Known c.args.goal.now = record {
      keeps = c.name-name.ensures.keeps;
      table = subst (λ (t : Terms). IsTable [] t.nodes) c.terms.ensures c.len-nodes.ensures.table;
      begun = subst (λ (t : Terms). IsBegun t.nodes) c.terms.ensures c.len-nodes.ensures.begins;
      meaning = c.typed_is_true.ensures;
      counts = c.typed_lines_count.ensures;
      decided = c.ground_goals.ensures;
    } in
    let right = subst (IsRightFor c.args.lemmas.now c.args.goal.now) c.in-Closed.is c.in_ok-proof.ensures in
    ProvesGoal-typed c.args.lemmas.now c.args.goal.now known c.in-Closed.proof right.0 right.1.typed right.1.terms

pub returns-in-Unexplored : goal.returns-in-Unexplored
returns-in-Unexplored c =
    not_entailed c.args.goal.now (subst (IsRightFor c.args.lemmas.now c.args.goal.now) c.in-Unexplored.is c.in_ok-proof.ensures)
