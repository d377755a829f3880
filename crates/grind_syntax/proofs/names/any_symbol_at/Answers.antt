use Rattle.grind_tokens.specs.declared.tokens.TokenKind.TheVariants as kinds
use Rattle.grind_syntax.proofs.KindLemmas.{kind_front, no_symbol_kind}
use Rattle.grind_syntax.proofs.names.any_symbol_at.Goals as goal

pub returns-in_default-clause-is : goal.returns-in_default-clause-is
returns-in_default-clause-is c =
    no_symbol_kind c.args.source.now.text.now _ _ c.in_ok-token.token.now c.in_ok-token.ensures.is c.in_default.not-Symbol

pub returns-clause-is : goal.returns-clause-is
returns-clause-is c =
    kind_front c.args.source.now.text.now _ _ c.in_ok-token.token.now c.in_ok-token.ensures.is
    (kinds.Symbol c.in-Symbol.sym) c.in-Symbol.is
