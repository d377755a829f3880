use Rattle.grind_monomials.proofs.CountLemmas.{counts-decide}
use Rattle.grind_monomials.proofs.laws.counts_decide.Goals as goal

pub returns : goal.returns
returns c = λ a b left right h. counts-decide a b 0 0 left right h
