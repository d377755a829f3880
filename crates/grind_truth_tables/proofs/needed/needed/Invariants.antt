use Rattle.std.proofs.Common.{◌∷◌}
use Rattle.grind_claims.specs.Claims.{claims_of}
use Rattle.grind_truth_tables.proofs.NeededLemmas.{Covering, above}
use Rattle.grind_truth_tables.proofs.needed.needed.Given as goal

abbrev pub invariant-loop-number : goal.invariant-loop-number
invariant-loop-number l = Covering l.fn.terms.nodes l.fn.free (l.fn.claim ∷ claims_of l.fn.premises) l.order l.pending.keys

abbrev pub decreases-loop-number : goal.decreases-loop-number
decreases-loop-number l = above l.pending.keys
