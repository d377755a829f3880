use Rattle.grind_grammar.proofs.LawLemmas.{formulas_complete, sums_complete, declarations_complete}
use Rattle.grind_grammar.proofs.laws.reading_is_complete.Goals as goal

pub returns-clause-formulas : goal.returns-clause-formulas
returns-clause-formulas c = formulas_complete

pub returns-clause-sums : goal.returns-clause-sums
returns-clause-sums c = sums_complete

pub returns-clause-declarations : goal.returns-clause-declarations
returns-clause-declarations c = declarations_complete
