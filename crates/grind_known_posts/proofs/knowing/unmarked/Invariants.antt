use Rattle.std.proofs.Common.{◌≡◌}
use Rattle.std.specs.Prelude.{false, replicate}
use Rattle.grind_known_posts.proofs.knowing.unmarked.Given as goal

abbrev pub invariant-loop-number : goal.invariant-loop-number
invariant-loop-number l = l.marks ≡ replicate l._number false
