use Rattle.std.specs.Prelude.{◌<◌, List, length}
use Rattle.std.proofs.Common.{arith, sym, subst}
use Rattle.std.proofs.lemmas.List.Elements.{All-weaker}
use Rattle.grind_congruence.specs.declared.edge.Edge.{Edge}
use Rattle.grind_needed_edges.specs.Plans.{AreWays}
use Rattle.grind_needed_edges.proofs.JoinLemmas.{together_from_joins}
use Rattle.grind_needed_edges.proofs.PlanLemmas.{IsPlan-keep}
use Rattle.grind_needed_edges.proofs.plan.Planner.cover_arg.Goals as goal

pub path-requires : goal.path-requires
path-requires c =
    together_from_joins c.args.self.now.closure.now c.args._place c.args.a c.args.b c.edges-edges.ensures.tied c.requires.left
    c.requires.right c.requires.joined

pub keep-requires-clause-ways : goal.keep-requires-clause-ways
keep-requires-clause-ways c =
    subst (λ (edges : List Edge). AreWays edges c.args.plan.now) (sym c.edges-edges.ensures.value) c.requires.ways.ways

pub keep-requires-clause-within : goal.keep-requires-clause-within
keep-requires-clause-within c =
    All-weaker (λ place. place < c.args._place) (λ place. place < length c.args.plan.now.needed)
    (λ place below. omega (arith, c.requires.place, below)) c.in_ok-places.places (c.in_ok-places.ensures.among c.args._place c.requires.joined)

pub returns-clause-extends : goal.returns-clause-extends
returns-clause-extends c =
    c.in_ok-keep.ensures.extends c.args._place (c.in_ok-places.ensures.among c.args._place c.requires.joined)

pub returns-clause-ways : goal.returns-clause-ways
returns-clause-ways c =
    IsPlan-keep c.args.self.now.terms.now.nodes c.args.self.now.closure.now.edges c.args.self.now.whys.now c.args.self.now.left c.args.self.now.right
    c.args.plan.now c.keep.new.plan c.args.a c.args.b c.in_ok-places.places c.requires.ways c.requires.needed c.in_ok-keep.ensures.kept
    (subst (λ (edges : List Edge). AreWays edges c.keep.new.plan) c.edges-edges.ensures.value c.in_ok-keep.ensures.ways)
