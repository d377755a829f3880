use Rattle.std.proofs.Common.{inl}
use Rattle.grind_ring_units.proofs.units.posts.found_at_post.Goals as goal

pub returns-in_default : goal.returns-in_default
returns-in_default c = inl (rw c.in_default.is at c.in_ok-found.ensures)

pub found_by_form-requires-clause-normal : goal.found_by_form-requires-clause-normal
found_by_form-requires-clause-normal c = rw c.in-Some.is at c.in_ok-found.ensures
