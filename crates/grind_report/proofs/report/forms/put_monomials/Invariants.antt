use Rattle.std.proofs.Common.{◌≡◌, ◌++◌, All, length}
use Rattle.std.specs.List.{flat_map}
use Rattle.grind_report.specs.Report.{spaced, monomial_words, MonomialFits}
use Rattle.grind_report.proofs.report.forms.put_monomials.Given as goal

abbrev pub invariant-loop-term : goal.invariant-loop-term
invariant-loop-term l = (l.out ++ spaced (flat_map monomial_words l.rest) ≡ l.initial.out ++ spaced (flat_map monomial_words l.fn.terms))
    × (All MonomialFits l.rest → All MonomialFits l.fn.terms)

abbrev pub decreases-loop-term : goal.decreases-loop-term
decreases-loop-term l = length l.rest
