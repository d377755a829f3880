use Rattle.std.specs.Prelude.{All, length, ◌↔◌}
use Rattle.std.specs.List.{AllZip}
use Rattle.grind_classes.specs.Classes.{IsActive, AreTogether}
use Rattle.grind_congruence.proofs.search.are_all_same.Given as goal

abbrev pub invariant-loop-x : goal.invariant-loop-x
invariant-loop-x l = record {
  whole : AllZip (AreTogether l.classes.lists) l.rest l.others ↔ AllZip (AreTogether l.fn.classes.lists) l.fn.left l.fn.right;
  left : All (IsActive l.classes.lists) l.rest;
  right : All (IsActive l.classes.lists) l.others;
}

abbrev pub decreases-loop-x : goal.decreases-loop-x
decreases-loop-x l = length l.rest
