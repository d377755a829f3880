use Rattle.std.proofs.Common.{rules, ◌<ℤ◌, pos, true≢false, sym, ◌∙◌}
use Rattle.std.specs.Int.{w128}
use Rattle.std.proofs.lemmas.Int.{to_z-of_z}
use Rattle.grind_linear_forms.specs.Cuts.{IsCut}
use Rattle.grind_differences.proofs.CutLemmas.{no_divisor, no_cut, by_cut}
use Rattle.grind_differences.proofs.bounds.is_within_cut.Goals as goal

pub returns-then-not-is_positive : goal.returns-then-not-is_positive
returns-then-not-is_positive c =
    let back = to_z-of_z w128 c.args.divisor c.ranges.divisor in
    let decides = simp back at c.is_positive.ensures in
    no_divisor c.args.sum.now c.args.form.now c.args.divisor (λ positive. true≢false (sym (decides.1 positive) ∙ c.if-not-is_positive.true))

pub returns-then-not-divides : goal.returns-then-not-divides
returns-then-not-divides c =
    let back = to_z-of_z w128 c.args.divisor c.ranges.divisor in
    let decides = simp back at c.divides.ensures in
    no_cut c.args.sum.now c.args.form.now c.args.divisor (λ all. true≢false (sym (decides.1 all) ∙ c.if-not-divides.true))

pub returns-in-Ok : goal.returns-in-Ok
returns-in-Ok c =
    let back = to_z-of_z w128 c.args.divisor c.ranges.divisor in
    let positive : pos 0 <ℤ c.args.divisor = search rules in
    let cut : IsCut c.args.sum.now c.args.divisor c.in-Ok.whole = simp back at c.in-Ok.ensures.ok in
    by_cut c.one_cut.ensures c.args.sum.now c.args.form.now c.in-Ok.whole c.args.divisor c.is_at_most.result positive cut
    c.is_at_most.ensures
