use Rattle.grind_ring_basis.proofs.PairLemmas.{too_high}
use Rattle.grind_ring_basis.proofs.pairs.s_polynomial.Goals as goal

pub returns-in-Err-Degree : goal.returns-in-Err-Degree
returns-in-Err-Degree c = too_high c.args.a.now c.args.b.now (c.in-Err-Degree.ensures.degree cc)
