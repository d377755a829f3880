use Rattle.std.proofs.Common.{arith}
use Rattle.grind_report_reader.proofs.NumeralLemmas.{digits_numeral}
use Rattle.grind_report_reader.proofs.numbers.is_numeral.Goals as goal

pub returns : goal.returns
returns c =
    digits_numeral c.args.word.now c.in-Some.first.now c.in-Some.tail.now c.are_digits.result c.in-Some.ensures.cases.0
    (λ e. absurd (omega (arith, e, c.if-first-eq48.false))) c.are_digits.ensures
