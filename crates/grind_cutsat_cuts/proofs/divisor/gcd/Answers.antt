use Rattle.std.proofs.Common.{arith}
use Rattle.std.proofs.lemmas.Nat.Gcd.{IsGcd-from_mod, IsGcd-from_zero}
use Rattle.grind_cutsat_cuts.proofs.divisor.gcd.Goals as goal

pub loop-small-preserved : goal.loop-small-preserved
loop-small-preserved c = λ g h. c.loop-small.invariant g (IsGcd-from_mod c.loop-small.large c.loop-small.small g h)

pub returns : goal.returns
returns c = c.loop-small.invariant c.loop-small.large (IsGcd-from_zero c.loop-small.large c.loop-small.small (omega arith))
