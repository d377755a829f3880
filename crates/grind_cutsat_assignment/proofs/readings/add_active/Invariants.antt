use Rattle.std.proofs.Common.{All}
use Rattle.grind_cutsat_assignment.specs.Walks.{IsInt, HasActive}
use Rattle.grind_cutsat_assignment.proofs.readings.add_active.Given as goal

abbrev pub invariant-loop-number : goal.invariant-loop-number
invariant-loop-number l = record {
  ints : All (IsInt l.terms.nodes) l.ids;
  has : HasActive l.terms.nodes l.classes.lists l.number l.ids;
}
