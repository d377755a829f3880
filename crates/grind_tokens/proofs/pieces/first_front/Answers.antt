use Rattle.std.proofs.Common.{rules, arith}
use Rattle.grind_tokens.proofs.PieceLemmas.{blank_front}
use Rattle.grind_tokens.proofs.pieces.first_front.Goals as goal

pub returns-in-len1-up-clause-ok : goal.returns-in-len1-up-clause-ok
returns-in-len1-up-clause-ok c = blank_front c.args.text.now (omega arith) (search rules)
