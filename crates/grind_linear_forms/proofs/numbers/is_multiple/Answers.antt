use Rattle.std.proofs.Common.{FitsSigned, rules, sym, ◌∙◌}
use Rattle.std.proofs.lemmas.Int.{to_z-of_z}
use Rattle.std.specs.Int.{w128}
use Rattle.grind_linear_forms.proofs.Fits.{no_bits}
use Rattle.grind_linear_forms.proofs.numbers.is_multiple.Goals as goal

pub returns : goal.returns
returns c =
    let fits : FitsSigned w128 c.remainder-rest.result = search rules in
    let zero = no_bits c.remainder-rest.result fits in
    let rest = simp (to_z-of_z w128 c.args.number c.ranges.number, to_z-of_z w128 c.args.divisor c.ranges.divisor) at c.remainder-rest.ensures in
    let multiple = c.multiples_leave_nothing.ensures c.args.number c.args.divisor c.requires in (
      λ h. multiple.0 (sym rest ∙ zero.0 h),
      λ h. zero.1 (rest ∙ multiple.1 h),
    )
