use Rattle.grind_grammar.proofs.FileLemmas.{one_parse, none_refused, one_refusal_at_most}
use Rattle.grind_grammar.proofs.laws.one_parse.Goals as goal

pub returns-clause-declarations : goal.returns-clause-declarations
returns-clause-declarations c = one_parse

pub returns-clause-apart : goal.returns-clause-apart
returns-clause-apart c = none_refused

pub returns-clause-refusal : goal.returns-clause-refusal
returns-clause-refusal c = one_refusal_at_most
