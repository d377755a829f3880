use Rattle.std.proofs.Common.{◌≡◌, ◌++◌, All, length}
use Rattle.grind_report.specs.Report.{spaced, paired, factor_behind, PolyFits}
use Rattle.grind_report.proofs.report.forms.put_poly_factors.Given as goal

abbrev pub invariant-loop-line : goal.invariant-loop-line
invariant-loop-line l = (l.out ++ spaced (paired factor_behind l.others l.rest) ≡ l.initial.out ++ spaced (paired factor_behind l.fn.factors l.fn.premises))
    × (length l.rest ≡ length l.others)
    × (All PolyFits l.others → All PolyFits l.fn.factors)

abbrev pub decreases-loop-line : goal.decreases-loop-line
decreases-loop-line l = length l.rest
