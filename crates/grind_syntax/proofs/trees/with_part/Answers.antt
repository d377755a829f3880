use Rattle.std.proofs.Common.{◌≡◌, ◌∷◌, ◌++◌, [], ap, arith}
use Rattle.grind_syntax.specs.Depth.{trees_depth}
use Rattle.grind_syntax.proofs.TreeLemmas.{deeper}
use Rattle.grind_syntax.proofs.trees.with_part.Goals as goal

pub invariant_of-result-2 : goal.invariant_of-result-2
invariant_of-result-2 c =
    let more = deeper c.args.parts.trees.items c.in-Some.part.tree in
    let items : trees_depth c.push.new.self.items ≡ trees_depth (c.args.parts.trees.items ++ c.in-Some.part.tree ∷ []) = ap trees_depth c.in-Ok.ensures.items in
    record { is_depth = omega arith; is_low = omega arith }
