use Rattle.std.specs.Prelude.{length, All}
use Rattle.std.specs.List.{AllZip}
use Rattle.grind_classes.specs.Classes.{IsActive}
use Rattle.grind_congruence.specs.Edges.{Joins}
use Rattle.grind_needed_edges.specs.Plans.{IsPlanOf, IsNeededBy}
use Rattle.grind_needed_edges.specs.Planning.{AreHalfCovered}
use Rattle.grind_needed_edges.proofs.plan.Planner.cover_args.Given as goal

abbrev pub invariant-loop-a : goal.invariant-loop-a
invariant-loop-a l =
    AreHalfCovered l.fn.self.closure.now.edges l.fn.plan l.plan l.fn.place l.fn.lefts l.fn.rights l.left l.right
    × All (IsActive l.fn.self.closure.now.lists) l.left × All (IsActive l.fn.self.closure.now.lists) l.right
    × AllZip (Joins l.fn.self.closure.now.edges l.fn.place) l.left l.right
    × IsPlanOf l.fn.self l.plan
    × AllZip (IsNeededBy l.fn.self) l.left l.right

abbrev pub decreases-loop-a : goal.decreases-loop-a
decreases-loop-a l = length l.left
