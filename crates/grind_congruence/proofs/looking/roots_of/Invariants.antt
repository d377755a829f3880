use Rattle.std.specs.Prelude.{ℕ, List, ◌++◌, All, length}
use Rattle.std.specs.List.{AllZip}
use Rattle.grind_classes.specs.Classes.{IsActive}
use Rattle.grind_congruence.specs.Table.{IsRootOf}
use Rattle.grind_congruence.proofs.looking.roots_of.Given as goal

abbrev pub invariant-loop-n : goal.invariant-loop-n
invariant-loop-n l = record {
  later : (later : List ℕ) → AllZip (IsRootOf l.classes.lists) later l.rest → AllZip (IsRootOf l.classes.lists) (l.roots ++ later) l.fn.nodes;
  active : All (IsActive l.classes.lists) l.rest;
}

abbrev pub decreases-loop-n : goal.decreases-loop-n
decreases-loop-n l = length l.rest
