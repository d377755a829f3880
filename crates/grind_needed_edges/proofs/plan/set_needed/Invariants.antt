use Rattle.std.specs.Prelude.{◌≡◌, ◌<◌, All, length}
use Rattle.grind_needed_edges.specs.Planning.{set_all}
use Rattle.grind_needed_edges.proofs.plan.set_needed.Given as goal

abbrev pub invariant-loop-place : goal.invariant-loop-place
invariant-loop-place l =
    (set_all l.needed l.rest ≡ set_all l.fn.needed l.fn.places) × All (λ place. place < length l.needed) l.rest

abbrev pub decreases-loop-place : goal.decreases-loop-place
decreases-loop-place l = length l.rest
