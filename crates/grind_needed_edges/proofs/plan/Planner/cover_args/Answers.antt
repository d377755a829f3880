use Rattle.grind_classes.specs.Classes.{IsActive}
use Rattle.grind_congruence.specs.Edges.{Joins}
use Rattle.grind_needed_edges.specs.Needed.{IsNeededPair}
use Rattle.grind_needed_edges.proofs.PlanLemmas.{AreHalfCovered-step}
use Rattle.grind_needed_edges.proofs.JoinLemmas.{All-others, zip_others}
use Rattle.grind_needed_edges.proofs.plan.Planner.cover_args.Goals as goal

pub loop-a-preserved : goal.loop-a-preserved
loop-a-preserved c = (
  AreHalfCovered-step c.args.self.now.closure.now.edges c.args.plan.now c.loop-a.plan c.cover_arg.new.plan c.args.place c.args.lefts.now
      c.args.rights.now c.loop-a.left.now c.in-Some.left_tail.now c.loop-a.right.now c.in-Some-split_first.right_tail.now c.in-Some.a.now
      c.in-Some-split_first.b.now c.in-Some.ensures.cases.0 c.in-Some-split_first.ensures.cases.0 c.loop-a.invariant.0
      c.in_ok-cover_arg.ensures.extends c.in_ok-cover_arg.ensures.ways.ways c.in_ok-cover_arg.ensures.has,
  All-others (IsActive c.args.self.now.closure.now.lists) c.loop-a.left.now c.in-Some.left_tail.now c.in-Some.a.now c.in-Some.ensures.cases.0
      c.loop-a.invariant.1,
  All-others (IsActive c.args.self.now.closure.now.lists) c.loop-a.right.now c.in-Some-split_first.right_tail.now c.in-Some-split_first.b.now
      c.in-Some-split_first.ensures.cases.0 c.loop-a.invariant.2,
  zip_others (Joins c.args.self.now.closure.now.edges c.args.place) c.loop-a.left.now c.in-Some.left_tail.now c.loop-a.right.now
      c.in-Some-split_first.right_tail.now c.in-Some.a.now c.in-Some-split_first.b.now c.in-Some.ensures.cases.0
      c.in-Some-split_first.ensures.cases.0 c.loop-a.invariant.3,
  c.in_ok-cover_arg.ensures.ways,
  zip_others (IsNeededPair c.args.self.now.terms.now.nodes c.args.self.now.closure.now.edges c.args.self.now.whys.now c.args.self.now.left c.args.self.now.right) c.loop-a.left.now c.in-Some.left_tail.now c.loop-a.right.now
      c.in-Some-split_first.right_tail.now c.in-Some.a.now c.in-Some-split_first.b.now c.in-Some.ensures.cases.0
      c.in-Some-split_first.ensures.cases.0 c.loop-a.invariant.5,
)
