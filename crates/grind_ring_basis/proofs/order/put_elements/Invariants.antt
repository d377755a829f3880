use Rattle.std.specs.Prelude.{◌≡◌, length}
use Rattle.grind_ring_basis.specs.Shares.{shares_of, with_shares}
use Rattle.grind_ring_basis.proofs.order.put_elements.Given as goal

-- what is left, put after what was put, is what the whole gives
abbrev pub invariant-loop-post : goal.invariant-loop-post
invariant-loop-post l =
    with_shares l.all.entries (shares_of l.posts l.elements l.factors)
    ≡ with_shares l.fn.all.entries (shares_of l.fn.basis.posts l.fn.basis.elements l.fn.list)

abbrev pub decreases-loop-post : goal.decreases-loop-post
decreases-loop-post l = length l.posts
