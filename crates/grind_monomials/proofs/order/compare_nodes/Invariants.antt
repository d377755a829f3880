use Rattle.std.specs.Prelude.{◌≡◌, length}
use Rattle.grind_monomials.specs.Order.{place_by_nodes}
use Rattle.grind_monomials.proofs.order.compare_nodes.Given as goal

abbrev pub invariant-loop-x : goal.invariant-loop-x
invariant-loop-x l = place_by_nodes l.rest l.others ≡ place_by_nodes l.fn.a l.fn.b

abbrev pub decreases-loop-x : goal.decreases-loop-x
decreases-loop-x l = length l.rest
