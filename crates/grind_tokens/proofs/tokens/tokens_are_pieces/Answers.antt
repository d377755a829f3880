use Rattle.grind_tokens.proofs.Progress.{tokens_are_pieces}
use Rattle.grind_tokens.proofs.tokens.tokens_are_pieces.Goals as goal

pub returns : goal.returns
returns c = tokens_are_pieces
