use Rattle.std.proofs.Common.{rules, arith}
use Rattle.grind_tokens.proofs.CharacterLemmas.{ascii_first}
use Rattle.grind_tokens.proofs.characters.first_character.Goals as goal

pub returns-in-len1-up-clause-some : goal.returns-in-len1-up-clause-some
returns-in-len1-up-clause-some c = ascii_first c.args.text.now (omega arith) (search rules)
