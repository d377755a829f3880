use Rattle.std.proofs.Common.{FitsSigned, rules, sym, ◌∙◌}
use Rattle.std.specs.Int.{w128}
use Rattle.std.proofs.lemmas.Int.{to_z-of_z}
use Rattle.grind_cutsat_cuts.specs.declared.combining.Cut.{Cut}
use Rattle.grind_cutsat_cuts.proofs.ResolveLemmas.{cut_of_sum}
use Rattle.grind_cutsat_cuts.proofs.units.resolves_two_bounds.cut_of_two.Goals as goal

pub returns : goal.returns
returns c =
    let first : FitsSigned w128 c.args.factors.first = search rules in
    let second : FitsSigned w128 c.args.factors.second = search rules in
    let half = simp (to_z-of_z w128 c.args.factors.first first) at c.in_ok-sum.ensures in
    let whole = simp (to_z-of_z w128 c.args.factors.second second) at half in
    cut_of_sum c.args.facts.now c.args.bounds.now.upper.now c.args.bounds.now.lower.now c.args.factors.first c.args.factors.second
    Cut (λ (it : Cut). it.divisor) (λ (it : Cut). it.form) c.in-Some.sum (sym whole ∙ c.in-Some.is) c.in_ok-cut.cut c.in_ok-cut.ensures
