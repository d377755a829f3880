use Rattle.std.proofs.Common.{subst}
use Rattle.std.specs.Prelude.{List}
use Rattle.grind_term_graph.specs.Terms.{Terms}
use Rattle.grind_congruence.specs.declared.edge.Edge.{Edge}
use Rattle.grind_goal_equations.specs.Building.{IsClosure}
use Rattle.grind_goal_equations.proofs.known.closed.Goals as goal

pub returns : goal.returns
returns c =
    subst (λ (edges : List Edge). IsClosure c.args.goal.now.terms.nodes edges c.in_ok-closure.closure) c.as_slice.ensures.value
    (subst (λ (t : Terms). IsClosure t.nodes c.as_slice.result.now c.in_ok-closure.closure) c.terms.ensures c.in_ok-closure.ensures)
