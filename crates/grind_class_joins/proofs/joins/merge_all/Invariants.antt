use Rattle.std.specs.Prelude.{◌≡◌, ℕ, ◌+◌, ◌*◌, ◌≤◌, ◌^◌, All, length, ◌↔◌}
use Rattle.grind_classes.specs.Classes.{IsActive}
use Rattle.grind_class_joins.specs.Joins.{IsActivePair}
use Rattle.grind_class_joins.proofs.JoinsLemmas.{AreMergedSoFar}
use Rattle.grind_class_joins.proofs.joins.merge_all.Given as goal

abbrev pub invariant-loop-pair : goal.invariant-loop-pair
invariant-loop-pair l = record {
  merged : AreMergedSoFar l.fn.classes.lists l.fn.pairs l.rest l.classes.lists l.moved;
  pairs : All (IsActivePair l.classes.lists) l.rest;
  active : (n : ℕ) → IsActive l.classes.lists n ↔ IsActive l.fn.classes.lists n;
  marked : l.classes.marked ≡ l.fn.classes.marked;
  count : l.why + length l.rest ≡ length l.fn.pairs;
  small : l.moved ≤ l.why * 2 ^ 32;
}

abbrev pub decreases-loop-pair : goal.decreases-loop-pair
decreases-loop-pair l = length l.rest
