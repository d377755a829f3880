use Rattle.grind_tokens.proofs.PlainNames.{names_are_plain}
use Rattle.grind_tokens.proofs.tokens.names_are_plain.Goals as goal

pub returns : goal.returns
returns c = names_are_plain
