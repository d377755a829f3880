use Rattle.std.proofs.Common.{sym, ◌∙◌}
use Rattle.std.proofs.lemmas.Bool.{false≢true}
use Rattle.grind_ring_units.proofs.ZeroedLemmas.{lacks_unread, lacks_claimed, lacks_it}
use Rattle.grind_ring_units.proofs.units.zeroed.lacks_zero.Goals as goal

pub returns-in_default : goal.returns-in_default
returns-in_default c =
    lacks_unread c.args.state.now c.args.terms.now.nodes c.args.it.now (rw c.in_default.is at c.in_ok-found.ensures)

pub returns-then-is_claimed : goal.returns-then-is_claimed
returns-then-is_claimed c =
    lacks_claimed c.args.state.now c.args.terms.now.nodes c.args.it.now c.in-Some.poly (rw c.in-Some.is at c.in_ok-found.ensures)
    (c.is_claimed.ensures.0 c.if-is_claimed.true)

pub returns : goal.returns
returns c =
    lacks_it c.args.state.now c.args.terms.now.nodes c.args.it.now c.in-Some.poly (rw c.in-Some.is at c.in_ok-found.ensures)
    (λ claimed. false≢true (sym c.if-is_claimed.false ∙ c.is_claimed.ensures.1 claimed))
