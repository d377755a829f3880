use Rattle.grind_ring_basis.proofs.LineLemmas.{no_factors}
use Rattle.grind_ring_basis.proofs.factors.fitting_factors.Goals as goal

pub returns-in-Err-Overflow : goal.returns-in-Err-Overflow
returns-in-Err-Overflow c = no_factors c.args.basis.now c.args.poly.now (c.in-Err-Overflow.ensures.overflow cc)
