use Rattle.std.proofs.Common.{sym, ◌∙◌}
use Rattle.std.specs.Int.{w128}
use Rattle.std.proofs.lemmas.Int.{to_z-of_z}
use Rattle.grind_linear_forms.specs.Sums.{merged}
use Rattle.grind_linear_forms.proofs.Rising.{rises-merged}
use Rattle.grind_linear_forms.proofs.sum.add_scaled.Goals as goal

pub invariant_of-result : goal.invariant_of-result
invariant_of-result c =
    let told = simp (to_z-of_z w128 c.args.m c.ranges.m, to_z-of_z w128 c.args.k c.ranges.k) at c.in_ok-parts.ensures.ok in
    rises-merged c.args.m c.args.k c.args.a.now.parts c.args.b.now.parts 0 c.in_ok-parts.parts c.parts.ensures.keeps c.parts-2.ensures.keeps
    ((λ i. merged c.args.m (sym c.parts.ensures.value i) c.args.k (sym c.parts-2.ensures.value i)) ∙ told)
