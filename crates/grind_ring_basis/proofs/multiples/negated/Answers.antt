use Rattle.std.proofs.Common.{neg_ℤ}
use Rattle.std.proofs.lemmas.Int.{to_z-of_z}
use Rattle.std.specs.Int.{w128}
use Rattle.grind_polynomials.proofs.Fits.{fit_from}
use Rattle.grind_ring_basis.proofs.multiples.negated.Goals as goal

pub returns : goal.returns
returns c =
    fit_from c.checked_neg.result (neg_ℤ c.args.number) (simp (to_z-of_z w128 c.args.number c.ranges.number) at c.checked_neg.ensures)
