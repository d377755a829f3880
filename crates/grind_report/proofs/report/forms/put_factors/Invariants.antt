use Rattle.std.proofs.Common.{◌≡◌, ◌++◌, All, length}
use Rattle.grind_report.specs.Report.{spaced, paired, factor_first, IsWide}
use Rattle.grind_report.proofs.report.forms.put_factors.Given as goal

abbrev pub invariant-loop-premise : goal.invariant-loop-premise
invariant-loop-premise l = (l.out ++ spaced (paired factor_first l.others l.rest) ≡ l.initial.out ++ spaced (paired factor_first l.fn.factors l.fn.premises))
    × (length l.rest ≡ length l.others)
    × (All IsWide l.others → All IsWide l.fn.factors)

abbrev pub decreases-loop-premise : goal.decreases-loop-premise
decreases-loop-premise l = length l.rest
