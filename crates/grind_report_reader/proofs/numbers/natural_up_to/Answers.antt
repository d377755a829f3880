use Rattle.std.proofs.Common.{rules, ◌≡◌, ◌<◌, sym, ap, ◌∙◌, arith, decimal}
use Rattle.std.specs.Str.Parse.{digits_value}
use Rattle.grind_report_reader.specs.Numerals.{IsNumeral}
use Rattle.grind_report_reader.proofs.NumeralLemmas.{decimal_numeral, numeral_digits, numeral_spells}
use Rattle.grind_report_reader.proofs.numbers.natural_up_to.Goals as goal

pub returns-then-not-is_numeral-clause-none : goal.returns-then-not-is_numeral-clause-none
returns-then-not-is_numeral-clause-none c = λ _ n low e.
    let none : IsNumeral c.args.word.now → ⊥ = search rules in
    none (decimal_numeral c.args.word.now n (omega (arith, low, c.requires)) e).0

pub value_of-requires-clause-digits : goal.value_of-requires-clause-digits
value_of-requires-clause-digits c =
    let is : IsNumeral c.args.word.now = search rules in numeral_digits c.args.word.now is

pub returns-in_err-value-clause-none : goal.returns-in_err-value-clause-none
returns-in_err-value-clause-none c = λ _ n low e.
    let large : c.args.most < digits_value 10 c.args.word.now = c.in_err-value.ensures.none in
    let same = (decimal_numeral c.args.word.now n (omega (arith, low, c.requires)) e).1 in
    omega (arith, large, same, low)

pub returns-clause-some : goal.returns-clause-some
returns-clause-some c =
    let is : IsNumeral c.args.word.now = search rules in
    let value : c.in_ok-value.value ≡ digits_value 10 c.args.word.now = c.in_ok-value.ensures.some.0 in
    let spelled = numeral_spells c.args.word.now is (omega (arith, value, c.in_ok-value.ensures.some.1, c.requires)) in
    (spelled ∙ ap decimal (sym value), c.in_ok-value.ensures.some.1)
