use Rattle.std.proofs.Common.{inl, inr}
use Rattle.grind_ring_units.proofs.units.pairs.found_at_polynomial.Goals as goal

pub returns-in_default : goal.returns-in_default
returns-in_default c =
    inr (inl (c.args.pair.now, c.requires.rising, c.requires.pair, rw c.in_default.is at c.in_ok-found.ensures))

pub found_by_form-requires-clause-normal : goal.found_by_form-requires-clause-normal
found_by_form-requires-clause-normal c = rw c.in-Some.is at c.in_ok-found.ensures
