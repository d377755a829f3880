use Rattle.std.specs.Prelude.{◌≡◌, [], length, IsNone}
use Rattle.std.proofs.Common.{arith, ap, ◌∙◌, subst, rules}
use Rattle.grind_term_graph.specs.Terms.{Terms}
use Rattle.grind_term_graph.specs.Shape.{IsTable}
use Rattle.grind_schemes.specs.Goals.{GoalData}
use Rattle.grind_goal_equations.specs.Given.{HoldsOutBelow}
use Rattle.grind_goal_equations.proofs.GivenLemmas.{HoldsOutBelow-start, HoldsOutBelow-step, NoneRefuted-last}
use Rattle.grind_goal_equations.proofs.refuted.first_refuted.Goals as goal

pub loop-k-init : goal.loop-k-init
loop-k-init c = HoldsOutBelow-start c.args.goal.now c.args.closure.now

pub loop-k-preserved : goal.loop-k-preserved
loop-k-preserved c =
    let none : IsNone c.refuted_at.result = search rules in
    HoldsOutBelow-step c.args.goal.now c.args.closure.now c.loop-k.k c.loop-k.invariant (c.refuted_at.ensures.none none)

pub returns-clause-none : goal.returns-clause-none
returns-clause-none c = λ none.
    let terms : c.goal.inside.terms ≡ c.args.goal.now.terms = ap (λ (g : GoalData). g.terms) c.goal.view_is in
    let table : IsTable [] c.args.goal.now.terms.nodes = subst (λ (t : Terms). IsTable [] t.nodes) terms c.len-nodes.ensures.table in
    let count : c.len-count.result ≡ length c.args.goal.now.hyps =
    c.len-count.ensures.value ∙ ap (λ (g : GoalData). length g.hyps) c.goal.view_is in
    let last : c.loop-k.k ≡ c.len-count.result = omega (arith, c.loop-k.auto.k-end, c.loop-k-test.false) in
    NoneRefuted-last c.args.goal.now c.args.closure.now c.len-count.result table c.name-name.ensures.keeps count
    (subst (HoldsOutBelow c.args.goal.now c.args.closure.now) last c.loop-k.invariant) (c.refuted_at-2.ensures.none none)
