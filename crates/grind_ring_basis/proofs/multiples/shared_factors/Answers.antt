use Rattle.grind_ring_basis.proofs.LineLemmas.{unshared_first, unshared_second}
use Rattle.grind_ring_basis.proofs.multiples.shared_factors.Goals as goal

pub returns-in_default : goal.returns-in_default
returns-in_default c =
    unshared_first c.args.leads.now.divisor c.args.leads.now.first.now c.args.leads.now.second.now c.args.places c.args.factors
    (rw c.in_default.is at c.poly_at-one.ensures)

pub returns-in_default-two : goal.returns-in_default-two
returns-in_default-two c =
    unshared_second c.args.leads.now.divisor c.args.leads.now.first.now c.args.leads.now.second.now c.args.places c.args.factors
    (rw c.in_default-two.is at c.poly_at-two.ensures)
