use Rattle.std.specs.Prelude.{◌-◌, length}
use Rattle.grind_congruence.specs.Table.{IsLonger, KeepsUp, agenda_of}
use Rattle.grind_congruence.proofs.looking.drain.Given as goal

abbrev pub invariant-loop-cursor : goal.invariant-loop-cursor
invariant-loop-cursor l = record {
  stands : KeepsUp l.fn.look.classes.now.lists (agenda_of l.table l.fn.look.applications.now l.fn.look.work.now l.cursor);
  longer : IsLonger l.fn.table l.table;
}

abbrev pub decreases-loop-cursor : goal.decreases-loop-cursor
decreases-loop-cursor l = length l.fn.look.work.now - l.cursor
