use Rattle.std.proofs.Common.{◌≡◌, ◌++◌, map, take, decimal}
use Rattle.grind_report.specs.Report.{spaced}
use Rattle.grind_report.proofs.report.words.put_numbers.Given as goal

abbrev pub invariant-loop-number : goal.invariant-loop-number
invariant-loop-number l = l.out ≡ l.initial.out ++ spaced (map decimal (take l.number-index l.numbers))
