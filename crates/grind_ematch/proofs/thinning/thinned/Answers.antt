use Rattle.grind_ematch.proofs.ThinningLemmas.{Thins-by, Thins-itself}
use Rattle.grind_ematch.proofs.thinning.thinned.Goals as goal

pub returns-then-len-lt2 : goal.returns-then-len-lt2
returns-then-len-lt2 c = Thins-itself c.args.list

pub returns : goal.returns
returns c = Thins-by c.args.list c.in_ok-thin.thin c.in_ok-least.least.entries c.in_ok-least.ensures c.in_ok-thin.ensures
