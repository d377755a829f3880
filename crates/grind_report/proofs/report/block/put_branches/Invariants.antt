use Rattle.std.proofs.Common.{◌≡◌, ◌++◌, take, All}
use Rattle.grind_report.specs.Report.{spelled, indexed_lines, branch_words, BranchFits}
use Rattle.grind_report.proofs.report.block.put_branches.Given as goal

abbrev pub invariant-loop-index : goal.invariant-loop-index
invariant-loop-index l = (l.out ≡ l.initial.out ++ spelled (indexed_lines branch_words 1 (take l.index l.branches-2)))
    × All BranchFits (take l.index l.branches-2)
