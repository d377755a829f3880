use Rattle.std.proofs.Common.{◌-◌, length, drop}
use Rattle.grind_truth_tables.specs.Needed.{told}
use Rattle.grind_truth_tables.specs.Tables.{truth_of}
use Rattle.grind_truth_tables.proofs.NeededLemmas.{AreTold}
use Rattle.grind_truth_tables.proofs.truths.truths_of.Given as goal

-- the last nodes, so many of them, are told
abbrev pub invariant-loop-done : goal.invariant-loop-done
invariant-loop-done l =
    AreTold (told l.known) (truth_of l.terms.nodes l.free l.chosen) (drop (length l.order - l.done) l.order)
