use Rattle.std.proofs.Common.{◌∙◌, sym, subst}
use Rattle.std.specs.Str.{IsValidUpTo}
use Rattle.grind_tokens.proofs.CharacterLemmas.{begins_whole, begins_valid, no_character-whole, no_character-valid}
use Rattle.grind_tokens.proofs.characters.first_text.Goals as goal

pub returns-in-Ok-clause-begins : goal.returns-in-Ok-clause-begins
returns-in-Ok-clause-begins c =
    begins_whole c.args.text.now c.first_bytes-bytes.result.now c.in-Ok.whole.now c.first_bytes-bytes.ensures c.in-Ok.ensures.cases.0

pub returns-in-Ok-clause-none : goal.returns-in-Ok-clause-none
returns-in-Ok-clause-none c =
    no_character-whole c.args.text.now c.first_bytes-bytes.result.now c.in-Ok.whole.now c.first_bytes-bytes.ensures c.in-Ok.ensures.cases.0

pub returns-in-Err-clause-begins : goal.returns-in-Err-clause-begins
returns-in-Err-clause-begins c =
    begins_valid c.args.text.now c.first_bytes-bytes.result.now c.whole_text.result.now c.valid_up_to.result c.first_bytes-bytes.ensures
    (c.whole_text.ensures ∙ c.split_at.ensures.front)

pub returns-in-Err-clause-none : goal.returns-in-Err-clause-none
returns-in-Err-clause-none c =
    no_character-valid c.args.text.now c.first_bytes-bytes.result.now c.whole_text.result.now c.valid_up_to.result c.first_bytes-bytes.ensures
    (c.whole_text.ensures ∙ c.split_at.ensures.front)
    (subst (IsValidUpTo c.first_bytes-bytes.result.now) (sym c.valid_up_to.ensures) c.in-Err.ensures.cases.1)
