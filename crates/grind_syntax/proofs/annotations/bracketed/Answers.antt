use Rattle.grind_tokens.specs.declared.tokens.Sym.TheVariants as symbols
use Rattle.grind_syntax.proofs.Items.{closed_none, closed_open, closed_read}
use Rattle.grind_syntax.proofs.annotations.bracketed.Goals as goal

pub returns-in_default-clause-is : goal.returns-in_default-clause-is
returns-in_default-clause-is c = closed_none symbols.RightSquare _ (rw c.in_default.is at c.in_ok-annot.ensures.is)

pub returns-in_default-symbol_at-clause-is : goal.returns-in_default-symbol_at-clause-is
returns-in_default-symbol_at-clause-is c =
    closed_open symbols.RightSquare _ _ _ (rw c.in-Some.is at c.in_ok-annot.ensures.is) c.in_default-symbol_at.ensures.is

pub returns-clause-is : goal.returns-clause-is
returns-clause-is c =
    closed_read symbols.RightSquare _ _ _ _ (rw c.in-Some.is at c.in_ok-annot.ensures.is) c.in-Some-symbol_at.ensures.is
