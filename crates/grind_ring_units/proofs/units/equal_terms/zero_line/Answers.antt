use Rattle.std.proofs.Common.{true≢false, sym, ◌∙◌}
use Rattle.grind_ring_basis.proofs.LineLemmas.{reduces_to_zero}
use Rattle.grind_ring_units.proofs.EqualLemmas.{not_reduced, rest_not_zero}
use Rattle.grind_ring_units.proofs.units.equal_terms.zero_line.Goals as goal

pub returns-in_default : goal.returns-in_default
returns-in_default c = not_reduced c.args.state.now c.args.poly.now (rw c.in_default.is at c.in_ok-found.ensures)

pub returns-then-not-is_zero : goal.returns-then-not-is_zero
returns-then-not-is_zero c =
    rest_not_zero c.args.state.now c.args.poly.now c.in-Some.normal (rw c.in-Some.is at c.in_ok-found.ensures)
    (λ none. true≢false (sym (c.is_zero.ensures.1 none) ∙ c.if-not-is_zero.true))

pub difference_line-requires-clause-reduces : goal.difference_line-requires-clause-reduces
difference_line-requires-clause-reduces c =
    reduces_to_zero c.args.state.now.basis c.args.poly.now c.in-Some.normal (rw c.in-Some.is at c.in_ok-found.ensures)
    (c.is_zero.ensures.0 c.if-not-is_zero.false)
