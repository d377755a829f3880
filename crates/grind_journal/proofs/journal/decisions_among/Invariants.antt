use Rattle.std.specs.Prelude.{◌≡◌, ◌+◌, ◌≤◌, length}
use Rattle.grind_journal.specs.Posts.{decision_count}
use Rattle.grind_journal.proofs.journal.decisions_among.Given as goal

-- those counted and those among the rest are all
abbrev pub invariant-loop-post : goal.invariant-loop-post
invariant-loop-post l = (l.count + decision_count l.rest ≡ decision_count l.fn.posts) × (l.count + length l.rest ≤ length l.fn.posts)

abbrev pub decreases-loop-post : goal.decreases-loop-post
decreases-loop-post l = length l.rest
