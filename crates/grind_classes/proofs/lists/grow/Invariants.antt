use Rattle.std.specs.Prelude.{◌≡◌, ◌≤◌, ◌+◌, ◌-◌, length, take}
use Rattle.grind_classes.specs.Classes.{long_enough}
use Rattle.grind_classes.proofs.lists.grow.Given as goal

abbrev pub invariant-loop-alloc : goal.invariant-loop-alloc
invariant-loop-alloc l = record {
  whole : long_enough l.lists l.n ≡ long_enough l.fn.lists l.fn.n;
  front : take (length l.fn.lists) l.lists ≡ l.fn.lists;
  longer : length l.fn.lists ≤ length l.lists;
  same : l.n ≡ l.fn.n;
}

abbrev pub decreases-loop-alloc : goal.decreases-loop-alloc
decreases-loop-alloc l = l.n + 1 - length l.lists
