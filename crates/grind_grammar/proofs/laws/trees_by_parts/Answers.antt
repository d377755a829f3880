use Rattle.grind_grammar.proofs.KeepsLemmas.{term_of-Apply, IsPlacedTree-Apply}
use Rattle.grind_grammar.proofs.laws.trees_by_parts.Goals as goal

pub returns-clause-terms : goal.returns-clause-terms
returns-clause-terms c = term_of-Apply

pub returns-clause-places : goal.returns-clause-places
returns-clause-places c = IsPlacedTree-Apply
