use Rattle.grind_grammar.proofs.FileLemmas.{each_judged}
use Rattle.grind_grammar.proofs.laws.each_is_judged.Goals as goal

pub returns : goal.returns
returns c = each_judged
