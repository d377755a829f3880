use Rattle.std.proofs.Common.{◌*ℤ◌, FitsSigned, rules, ap, sym, ◌∙◌}
use Rattle.std.proofs.lemmas.Int.{to_z-of_z}
use Rattle.std.specs.Int.{w128}
use Rattle.grind_linear_forms.proofs.numbers.quotient.Goals as goal

pub returns : goal.returns
returns c =
    let fits : FitsSigned w128 c.whole_quotient.result = search rules in
    let quotient = simp (to_z-of_z w128 c.args.number c.ranges.number, to_z-of_z w128 c.args.divisor c.ranges.divisor) at c.whole_quotient.ensures in
    rw (to_z-of_z w128 c.whole_quotient.result fits)
    (c.multiples_divide.ensures c.args.number c.args.divisor c.requires.positive c.requires.multiple
    ∙ ap (λ q. c.args.divisor *ℤ q) (sym quotient))
