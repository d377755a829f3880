use Rattle.grind_monomials.proofs.CountLemmas.{count-quotient, rises-quotient}
use Rattle.grind_monomials.proofs.laws.quotients_subtract.Goals as goal

pub returns : goal.returns
returns c = λ a b left right. (λ n. count-quotient n a b 0 0 left right, rises-quotient a b 0 left)
