use Rattle.std.proofs.Common.{◌≡◌, ◌≤◌, length}
use Rattle.std.specs.List.{AllByRecursion}
use Rattle.std.specs.Str.Parse.{digits_value, digits_value_after}
use Rattle.grind_report_reader.specs.Numerals.{IsDigit}
use Rattle.grind_report_reader.proofs.numbers.value_of.Given as goal

abbrev pub invariant-loop-digit : goal.invariant-loop-digit
invariant-loop-digit l =
    (digits_value_after 10 l.value l.rest ≡ digits_value 10 l.fn.digits) × (l.value ≤ l.fn.most) × AllByRecursion IsDigit l.rest

abbrev pub decreases-loop-digit : goal.decreases-loop-digit
decreases-loop-digit l = length l.rest
