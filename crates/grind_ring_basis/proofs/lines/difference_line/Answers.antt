use Rattle.std.proofs.Common.{FitsSigned, rules}
use Rattle.std.specs.Int.{w128}
use Rattle.std.proofs.lemmas.Int.{to_z-of_z}
use Rattle.grind_ring_basis.proofs.LineLemmas.{difference_without, difference_answer}
use Rattle.grind_ring_basis.proofs.lines.difference_line.Goals as goal

pub returns-in_default : goal.returns-in_default
returns-in_default c =
    difference_without c.args.basis.now c.args.poly.now c.requires.reduces (rw c.in_default.is at c.in_ok-found.ensures)

pub returns : goal.returns
returns c =
    let fits : FitsSigned w128 c.in-Some.factors.divisor = search rules in
    difference_answer c.args.basis.now c.args.poly.now c.requires.reduces c.in-Some.factors (rw c.in-Some.is at c.in_ok-found.ensures)
    c.in_ok-premises.premises.entries c.in_ok-premises.ensures c.in_ok-line.line
    (simp (to_z-of_z w128 c.in-Some.factors.divisor fits) at c.in_ok-line.ensures)
