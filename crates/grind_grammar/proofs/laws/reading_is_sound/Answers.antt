use Rattle.grind_grammar.proofs.LawLemmas.{formulas_sound, sums_sound, declarations_sound}
use Rattle.grind_grammar.proofs.laws.reading_is_sound.Goals as goal

pub returns-clause-formulas : goal.returns-clause-formulas
returns-clause-formulas c = formulas_sound

pub returns-clause-sums : goal.returns-clause-sums
returns-clause-sums c = sums_sound

pub returns-clause-declarations : goal.returns-clause-declarations
returns-clause-declarations c = declarations_sound
