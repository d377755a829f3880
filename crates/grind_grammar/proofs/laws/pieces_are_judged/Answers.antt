use Rattle.grind_grammar.proofs.LawLemmas.{pieces_judged, faults_judged}
use Rattle.grind_grammar.proofs.laws.pieces_are_judged.Goals as goal

pub returns-clause-declarations : goal.returns-clause-declarations
returns-clause-declarations c = pieces_judged

pub returns-clause-faults : goal.returns-clause-faults
returns-clause-faults c = faults_judged
