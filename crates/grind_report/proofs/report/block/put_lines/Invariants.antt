use Rattle.std.proofs.Common.{◌≡◌, ◌++◌, take, All}
use Rattle.grind_report.specs.Report.{spelled, indexed_lines, line_words, LineFits}
use Rattle.grind_report.proofs.report.block.put_lines.Given as goal

abbrev pub invariant-loop-index : goal.invariant-loop-index
invariant-loop-index l = (l.out ≡ l.initial.out ++ spelled (indexed_lines line_words 0 (take l.index l.lines-2)))
    × All LineFits (take l.index l.lines-2)
