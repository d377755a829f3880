use Rattle.std.specs.Prelude.{◌≡◌, [], IsNone}
use Rattle.std.proofs.Common.{ap, subst, rules}
use Rattle.grind_term_graph.specs.Terms.{Terms}
use Rattle.grind_term_graph.specs.Shape.{IsTable}
use Rattle.grind_schemes.specs.Goals.{GoalData}
use Rattle.grind_goal_equations.specs.Congruences.{CongruenceEntails}
use Rattle.grind_goal_equations.proofs.DecidingLemmas.{none_refuted, refuted_entails}
use Rattle.grind_case_split.proofs.plain.by_congruence.Goals as goal

pub returns-in_default : goal.returns-in_default
returns-in_default c =
    let terms : c.goal.inside.terms ≡ c.args.goal.now.terms = ap (λ (g : GoalData). g.terms) c.goal.view_is in
    let table : IsTable [] c.args.goal.now.terms.nodes = subst (λ (t : Terms). IsTable [] t.nodes) terms c.len-count.ensures.table in
    let none : IsNone c.first_refuted.result = search rules in
    none_refuted c.args.goal.now c.in_ok-known.known.given c.in_ok-known.known.closure table c.classes-classes.ensures.tied
    c.in_ok-known.ensures.sources c.in_ok-known.ensures.covers c.in_ok-known.ensures.closure (c.first_refuted.ensures.none none)

pub returns : goal.returns
returns c =
    let terms : c.goal.inside.terms ≡ c.args.goal.now.terms = ap (λ (g : GoalData). g.terms) c.goal.view_is in
    let table : IsTable [] c.args.goal.now.terms.nodes = subst (λ (t : Terms). IsTable [] t.nodes) terms c.len-count.ensures.table in
    let entails : CongruenceEntails c.args.goal.now =
    refuted_entails c.args.goal.now c.in_ok-known.known.given c.in_ok-known.known.closure c.in-Some.fact table c.classes-classes.ensures.tied
    c.in_ok-known.ensures.sources c.in_ok-known.ensures.covers c.in_ok-known.ensures.closure c.in-Some.ensures.some in
    (entails, c.in_ok-proof.ensures)
