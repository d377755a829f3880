use Rattle.std.specs.Prelude.{ℕ, ◌≡◌, [], length}
use Rattle.std.proofs.Common.{arith, ap, ◌∙◌, subst}
use Rattle.grind_term_graph.specs.Terms.{Terms}
use Rattle.grind_term_graph.specs.Shape.{IsTable}
use Rattle.grind_schemes.specs.Goals.{GoalData}
use Rattle.grind_goal_equations.specs.Given.{CoversBelow}
use Rattle.grind_goal_equations.proofs.GivenLemmas.{sources_none, CoversBelow-start, CoversBelow-step, CoversAll-last}
use Rattle.grind_goal_equations.proofs.given.given_by.Goals as goal

pub loop-k-init : goal.loop-k-init
loop-k-init c = record {
  sources = sources_none c.args.goal.now c.new-given.result c.new-given.ensures;
  covers = CoversBelow-start c.args.goal.now c.new-given.result;
}

pub loop-k-preserved : goal.loop-k-preserved
loop-k-preserved c = record {
  sources = c.in_ok-push_source.ensures.sources;
  covers = CoversBelow-step c.args.goal.now c.loop-k.given c.push_source.new.given c.loop-k.k c.loop-k.invariant.covers
      c.in_ok-push_source.ensures.keeps c.in_ok-push_source.ensures.covers;
}

pub returns-clause-covers : goal.returns-clause-covers
returns-clause-covers c =
    let terms : c.goal.inside.terms ≡ c.args.goal.now.terms = ap (λ (g : GoalData). g.terms) c.goal.view_is in
    let table : IsTable [] c.args.goal.now.terms.nodes = subst (λ (t : Terms). IsTable [] t.nodes) terms c.len-nodes.ensures.table in
    let count : c.len-count.result ≡ length c.args.goal.now.hyps =
    c.len-count.ensures.value ∙ ap (λ (g : GoalData). length g.hyps) c.goal.view_is in
    let last : c.loop-k.k ≡ c.len-count.result = omega (arith, c.loop-k.auto.k-end, c.loop-k-test.false) in
    let covers : CoversBelow c.args.goal.now c.loop-k.given c.len-count.result =
    subst (λ (k : ℕ). CoversBelow c.args.goal.now c.loop-k.given k) last c.loop-k.invariant.covers in
    CoversAll-last c.args.goal.now c.loop-k.given c.push_source-2.new.given c.len-count.result table c.name-name.ensures.keeps count covers
    c.in_ok-push_source-2.ensures.keeps c.in_ok-push_source-2.ensures.covers
