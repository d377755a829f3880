use Rattle.std.specs.Prelude.{◌≤◌}
use Rattle.grind_needed_edges.specs.Plans.{IsPlanOf}
use Rattle.grind_needed_edges.specs.Planning.{AreCoveredFrom}
use Rattle.grind_needed_edges.proofs.plan.Planner.cover_all.Given as goal

abbrev pub invariant-loop-place : goal.invariant-loop-place
invariant-loop-place l =
    AreCoveredFrom l.fn.self.terms.now.nodes l.fn.self.closure.now.edges l.fn.self.whys.now l.fn.plan l.plan l.place
    × (l.place ≤ l.fn.count)
    × IsPlanOf l.fn.self l.plan

abbrev pub decreases-loop-place : goal.decreases-loop-place
decreases-loop-place l = l.place
