use Rattle.grind_lemmas.proofs.Quotients.{multiples-leave_nothing}
use Rattle.grind_lemmas.proofs.division.multiples_leave_nothing.Goals as goal

pub returns : goal.returns
returns c = multiples-leave_nothing
