use Rattle.std.proofs.Common.{◌≡◌, suc, sym, ◌∙◌, arith, decimal}
use Rattle.grind_report_reader.proofs.NumeralLemmas.{same_decimal}
use Rattle.grind_report_reader.proofs.numbers.negative_of.Goals as goal

pub returns-then-number-eq0-clause-none : goal.returns-then-number-eq0-clause-none
returns-then-number-eq0-clause-none c = λ _ k wide e.
    let small = wide.sfits in
    let none : c.in_ok-number.number ≡ 0 = omega (arith, c.if-number-eq0.true) in
    let both : decimal c.in_ok-number.number ≡ decimal (suc k) = sym c.in_ok-number.ensures.some.0 ∙ e in
    let same : c.in_ok-number.number ≡ suc k = same_decimal c.in_ok-number.number (suc k) (omega (arith, none)) (omega arith) both in
    omega (arith, none, same)
