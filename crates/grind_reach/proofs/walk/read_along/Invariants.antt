use Rattle.std.specs.Prelude.{◌≡◌, length}
use Rattle.grind_reach.specs.Marks.{AreRead, AreInUse}
use Rattle.grind_reach.proofs.walk.read_along.Given as goal

abbrev pub invariant-loop-number : goal.invariant-loop-number
invariant-loop-number g l = record {
  count : length l.list ≡ l.number;
  known : AreRead g.R.Algebra.operations l.fn.course.table.now.nodes l.fn.course.marks.now l.fn.course.uses.now l.list;
  held : AreInUse l.fn.course.marks.now l.fn.course.uses.now l.list;
}
