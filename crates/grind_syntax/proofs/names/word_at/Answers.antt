use Rattle.grind_tokens.specs.declared.tokens.TokenKind.TheVariants as kinds
use Rattle.grind_syntax.proofs.KindLemmas.{kind_front, no_word_front}
use Rattle.grind_syntax.proofs.names.word_at.Goals as goal

pub returns-in_default-clause-is : goal.returns-in_default-clause-is
returns-in_default-clause-is c =
    no_word_front c.args.source.now.text.now _ _ c.in_ok-token.token.now c.in_ok-token.ensures.is c.in_default.not-Word

pub returns-clause-is : goal.returns-clause-is
returns-clause-is c =
    kind_front c.args.source.now.text.now _ _ c.in_ok-token.token.now c.in_ok-token.ensures.is kinds.Word c.in-Word.is
