use Rattle.std.specs.Prelude.{List, length}
use Rattle.std.proofs.Common.{sym, subst}
use Rattle.grind_needed_edges.specs.declared.why.Why.{Why}
use Rattle.grind_needed_edges.specs.Needed.{AreGrounds}
use Rattle.grind_needed_edges.specs.Plans.{IsPlan}
use Rattle.grind_needed_edges.proofs.PlanLemmas.{IsPlanned-needed}
use Rattle.grind_explain.proofs.KnownLemmas.{IsGiven-start, AreGrounds-reasons}
use Rattle.grind_explain.proofs.NotedLemmas.{IsBrief-weaker}
use Rattle.grind_explain.proofs.explanation.explain.Goals as goal

pub plan_of-requires-clause-grounds : goal.plan_of-requires-clause-grounds
plan_of-requires-clause-grounds c = λ count fewest.
    subst (λ (whys : List Why). AreGrounds c.args.proof.now.terms.nodes c.args.closure.now.edges whys count) (sym c.as_slice.ensures.value)
    (AreGrounds-reasons c.args.proof.now c.args.branch c.args.closure.now.edges c.args.whys.now count (c.requires.reasons count fewest))

pub derive-requires-clause-given : goal.derive-requires-clause-given
derive-requires-clause-given c =
    IsGiven-start c.args.closure.now c.args.whys.now c.as_slice.result.now c.as_slice-2.result.now c.in_ok-plan.plan c.args.branch c.args.proof.now
    c.as_slice.ensures.value c.as_slice-2.ensures.value c.requires.fits
    (c.requires.reasons (length c.in_ok-plan.plan.needed) c.in_ok-plan.ensures.fewest) c.in_ok-plan.ensures.covers c.in_ok-plan.ensures.plan.ways
    c.in_ok-plan.ensures.plan.on_ways

pub returns-clause-brief : goal.returns-clause-brief
returns-clause-brief c =
    let nodes = c.args.proof.now.terms.nodes in
    let edges = c.args.closure.now.edges in
    let whys = c.args.whys.now in
    let plan : IsPlan nodes edges whys c.args.a c.args.b c.in_ok-plan.plan =
    subst (λ (ws : List Why). IsPlan nodes edges ws c.args.a c.args.b c.in_ok-plan.plan) c.as_slice.ensures.value c.in_ok-plan.ensures.plan in
    IsBrief-weaker c.args.proof.now c.derive.new.proof
    (λ x y planned. IsPlanned-needed nodes edges whys c.as_slice-2.result.now c.args.a c.args.b c.in_ok-plan.plan x y
    c.as_slice-2.ensures.value plan planned)
    c.in_ok-last.ensures.brief
