use Rattle.grind_lemmas.proofs.Quotients.{multiples-divide}
use Rattle.grind_lemmas.proofs.division.multiples_divide.Goals as goal

pub returns : goal.returns
returns c = multiples-divide
