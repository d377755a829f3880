use Rattle.std.specs.Prelude.{true, false, refl}
use Rattle.grind_goal_equations.proofs.FactLemmas.{read_sorted, formula_within}
use Rattle.grind_goal_equations.proofs.fact.read.Goals as goal

pub compared-requires : goal.compared-requires
compared-requires c = formula_within c.args.terms.now.nodes c.args.n c.requires

pub negated-requires : goal.negated-requires
negated-requires c = formula_within c.args.terms.now.nodes c.args.n c.requires

pub returns-in-Some-clause-sorted : goal.returns-in-Some-clause-sorted
returns-in-Some-clause-sorted c =
    read_sorted c.args.terms.now.nodes c.args.n true c.args.n c.in-Some.sides.left c.in-Some.sides.right c.len-count.ensures.table c.requires
    (refl, c.in-Some.ensures.is)

pub returns-clause-sorted : goal.returns-clause-sorted
returns-clause-sorted c =
    read_sorted c.args.terms.now.nodes c.args.n false c.in_ok-equation.equation c.in_ok-sides.sides.left c.in_ok-sides.sides.right
    c.len-count.ensures.table c.requires (c.in_ok-equation.ensures.is, c.in_ok-sides.ensures.is)
