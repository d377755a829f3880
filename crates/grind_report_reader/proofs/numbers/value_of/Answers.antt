use Rattle.std.proofs.Common.{◌≡◌, ◌+◌, ◌*◌, ◌∷◌, sym, ◌∙◌, ap, arith}
use Rattle.std.specs.Char.{digit_value}
use Rattle.std.specs.Str.Parse.{digits_value, digits_value_after}
use Rattle.grind_report_reader.proofs.NumeralLemmas.{value_grows}
use Rattle.grind_report_reader.proofs.numbers.value_of.Goals as goal

pub returns-in_default-with_digit-clause-none : goal.returns-in_default-with_digit-clause-none
returns-in_default-with_digit-clause-none c =
    let value = c.loop-digit.value in
    let digit = c.in-Some.digit.now in
    let tail = c.in-Some.tail.now in
    let large = c.in_default-with_digit.ensures.none in
    let more = value_grows (value * 10 + digit_value digit) tail in
    let parts : c.loop-digit.rest.now ≡ digit ∷ tail = c.in-Some.ensures.cases.0 in
    let whole : digits_value_after 10 value (digit ∷ tail) ≡ digits_value 10 c.args.digits.now =
    ap (λ l. digits_value_after 10 value l) (sym parts) ∙ c.loop-digit.invariant.0 in
    omega arith
