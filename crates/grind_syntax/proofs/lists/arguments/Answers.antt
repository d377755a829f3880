use Rattle.std.proofs.Common.{◌∙◌}
use Rattle.grind_tokens.specs.declared.tokens.Sym.TheVariants as symbols
use Rattle.grind_grammar.specs.Reading.{sort_at}
use Rattle.grind_syntax.proofs.Items.{parentheses_none, parentheses_open, closed_none, closed_open, closed_read}
use Rattle.grind_syntax.proofs.lists.arguments.Goals as goal

pub returns-in_default-clause-is : goal.returns-in_default-clause-is
returns-in_default-clause-is c = rw c.new.ensures (parentheses_none sort_at _ c.in_default.ensures.is)

pub returns-in_default-2-clause-is : goal.returns-in_default-2-clause-is
returns-in_default-2-clause-is c =
    parentheses_open sort_at _ _ c.in-Some.ensures.is ∙ closed_none symbols.RightParen _ (rw c.in_default-2.is at c.in_ok-sorts.ensures.is)

pub returns-in_default-symbol_at-clause-is : goal.returns-in_default-symbol_at-clause-is
returns-in_default-symbol_at-clause-is c =
    parentheses_open sort_at _ _ c.in-Some.ensures.is
    ∙ closed_open symbols.RightParen _ _ _ (rw c.in-Some-2.is at c.in_ok-sorts.ensures.is) c.in_default-symbol_at.ensures.is

pub returns-clause-is : goal.returns-clause-is
returns-clause-is c =
    parentheses_open sort_at _ _ c.in-Some.ensures.is
    ∙ closed_read symbols.RightParen _ _ _ _ (rw c.in-Some-2.is at c.in_ok-sorts.ensures.is) c.in-Some-symbol_at.ensures.is
