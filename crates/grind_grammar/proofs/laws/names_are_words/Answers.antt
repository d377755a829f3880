use Rattle.grind_grammar.proofs.NameLemmas.{names_are_words}
use Rattle.grind_grammar.proofs.laws.names_are_words.Goals as goal

pub returns : goal.returns
returns c = names_are_words
