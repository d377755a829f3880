use Rattle.std.specs.Prelude.{◌≡◌, ◌++◌, length, take}
use Rattle.grind_congruence.specs.Table.{uses_of_all}
use Rattle.grind_congruence.proofs.uses.put_each.Given as goal

abbrev pub invariant-loop-n : goal.invariant-loop-n
invariant-loop-n l = record {
  whole : l.work ++ uses_of_all l.uses l.rest ≡ l.fn.work ++ uses_of_all l.fn.uses l.fn.nodes;
  front : take (length l.fn.work) l.work ≡ l.fn.work;
}

abbrev pub decreases-loop-n : goal.decreases-loop-n
decreases-loop-n l = length l.rest
