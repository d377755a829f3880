use Rattle.std.proofs.Common.{◌≡◌, length, refl, arith}
use Rattle.grind_report_reader.proofs.NumeralLemmas.{some_byte, minus_rest}
use Rattle.grind_report_reader.proofs.numbers.integer_of.Goals as goal

pub returns-in_default-clause-none : goal.returns-in_default-clause-none
returns-in_default-clause-none c = λ _ z h.
    let none : length c.args.word.now ≡ 0 = c.in_default.ensures.cases in
    omega (arith, some_byte c.args.word.now z h, none)

pub returns-in_err-number-clause-none : goal.returns-in_err-number-clause-none
returns-in_err-number-clause-none c = λ _ z h.
    minus_rest c.args.word.now c.in-Some.digits.now c.in-Some.first.now z c.in-Some.ensures.cases.0
    (omega (arith, c.if-first-eq45.true)) h (c.in_err-number.ensures.none refl)
