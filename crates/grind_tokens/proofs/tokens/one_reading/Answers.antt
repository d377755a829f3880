use Rattle.std.proofs.Common.{length, arith}
use Rattle.grind_tokens.proofs.Totality.{read}
use Rattle.grind_tokens.proofs.Readings.{one_from, not_both, one_break}
use Rattle.grind_tokens.proofs.tokens.one_reading.Goals as goal

pub returns-clause-some : goal.returns-clause-some
returns-clause-some c = λ text. read (length text) 0 text (omega arith)

pub returns-clause-tokens : goal.returns-clause-tokens
returns-clause-tokens c = λ text a b s t. one_from s t

pub returns-clause-not_both : goal.returns-clause-not_both
returns-clause-not_both c = λ text ts e s t. not_both s t

pub returns-clause-fault : goal.returns-clause-fault
returns-clause-fault c = λ text a b s t. one_break s t
