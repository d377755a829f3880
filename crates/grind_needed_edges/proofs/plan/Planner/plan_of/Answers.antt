use Rattle.std.specs.Prelude.{◌≡◌, ◌≤◌, ℕ, List, length}
use Rattle.std.proofs.Common.{sym, subst, ◌∙◌, rules}
use Rattle.grind_congruence.specs.declared.edge.Edge.{Edge}
use Rattle.grind_needed_edges.specs.Needed.{IsFewest}
use Rattle.grind_needed_edges.specs.Plans.{AreWays}
use Rattle.grind_needed_edges.specs.Planning.{IsBound}
use Rattle.grind_needed_edges.specs.Needed.IsNeededPair.{asked}
use Rattle.grind_needed_edges.proofs.PlanLemmas.{IsPlan-start, IsPlan-keep}
use Rattle.grind_needed_edges.proofs.JoinLemmas.{fewest_of_way, bound_within}
use Rattle.grind_needed_edges.proofs.plan.Planner.plan_of.Goals as goal

pub cover_all-requires-clause-grounds : goal.cover_all-requires-clause-grounds
cover_all-requires-clause-grounds c =
    c.requires.grounds c.bound_of-count.result
    (fewest_of_way c.args.self.now.closure.now.edges c.in_ok-places.places c.bound_of-count.result c.args.self.now.left c.args.self.now.right c.in_ok-places.ensures.leads
    c.in_ok-places.ensures.among
    (subst (λ (places : List ℕ). IsBound places c.bound_of-count.result) c.as_slice.ensures.value c.bound_of-count.ensures))

pub cover_all-requires-clause-within : goal.cover_all-requires-clause-within
cover_all-requires-clause-within c =
    bound_within c.args.self.now.closure.now.edges c.in_ok-places.places c.bound_of-count.result c.args.self.now.left c.args.self.now.right c.in_ok-places.ensures.leads
    (subst (λ (places : List ℕ). IsBound places c.bound_of-count.result) c.as_slice.ensures.value c.bound_of-count.ensures)

pub cover_all-requires-clause-ways : goal.cover_all-requires-clause-ways
cover_all-requires-clause-ways c =
    IsPlan-keep c.args.self.now.terms.now.nodes c.args.self.now.closure.now.edges c.args.self.now.whys.now c.args.self.now.left c.args.self.now.right
    _ c.keep.new.plan c.args.self.now.left c.args.self.now.right c.in_ok-places.places
    (IsPlan-start c.args.self.now.terms.now.nodes c.args.self.now.closure.now.edges c.args.self.now.whys.now c.args.self.now.left c.args.self.now.right
    _ (search rules) c.in_ok-needed.ensures.idle)
    asked c.in_ok-keep.ensures.kept (subst (λ (edges : List Edge). AreWays edges c.keep.new.plan) c.edges-edges.ensures.value c.in_ok-keep.ensures.ways)

pub returns-clause-fewest : goal.returns-clause-fewest
returns-clause-fewest c =
    let bound = subst (λ (places : List ℕ). IsBound places c.bound_of-count.result) c.as_slice.ensures.value c.bound_of-count.ensures in
    let long : length c.cover_all.new.plan.needed ≡ c.bound_of-count.result =
    c.in_ok-cover_all.ensures.long ∙ (c.in_ok-keep.ensures.extends c.bound_of-count.result bound.above).long ∙ c.in_ok-needed.ensures.long in
    subst (λ (n : ℕ). IsFewest c.args.self.now.closure.now.edges n c.args.self.now.left c.args.self.now.right) (sym long)
    (fewest_of_way c.args.self.now.closure.now.edges c.in_ok-places.places c.bound_of-count.result c.args.self.now.left c.args.self.now.right c.in_ok-places.ensures.leads
    c.in_ok-places.ensures.among bound)

pub returns-clause-count : goal.returns-clause-count
returns-clause-count c =
    let bound = subst (λ (places : List ℕ). IsBound places c.bound_of-count.result) c.as_slice.ensures.value c.bound_of-count.ensures in
    let long : length c.cover_all.new.plan.needed ≡ c.bound_of-count.result =
    c.in_ok-cover_all.ensures.long ∙ (c.in_ok-keep.ensures.extends c.bound_of-count.result bound.above).long ∙ c.in_ok-needed.ensures.long in
    subst (λ (n : ℕ). n ≤ length c.args.self.now.closure.now.edges) (sym long)
    (bound_within c.args.self.now.closure.now.edges c.in_ok-places.places c.bound_of-count.result c.args.self.now.left c.args.self.now.right c.in_ok-places.ensures.leads bound)
