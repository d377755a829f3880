use Rattle.std.proofs.Common.{rules}
use Rattle.grind_tokens.specs.Tokens.{IsNameStart}
use Rattle.grind_tokens.proofs.CharacterLemmas.{stops_other}
use Rattle.grind_tokens.proofs.characters.name_start.Goals as goal

pub returns-clause-none : goal.returns-clause-none
returns-clause-none c =
    let other : ¬ IsNameStart c.in-Some.first = search rules in
    stops_other IsNameStart c.args.text.now c.in-Some.first other c.in-Some.ensures.some.1
