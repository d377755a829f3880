use Rattle.grind_syntax.proofs.ListLemmas.{binders_is, binders_none, binders_open, binders_read}
use Rattle.grind_syntax.proofs.lists.binders.Goals as goal

pub returns-in_default-clause-is : goal.returns-in_default-clause-is
returns-in_default-clause-is c = rw c.new.ensures (binders_is _ c.in_default.ensures.is)

pub returns-in_default-2-clause-is : goal.returns-in_default-2-clause-is
returns-in_default-2-clause-is c = binders_none _ _ c.in-Some.ensures.is (rw c.in_default-2.is at c.in_ok-bound.ensures.is)

pub returns-in_default-symbol_at-clause-is : goal.returns-in_default-symbol_at-clause-is
returns-in_default-symbol_at-clause-is c =
    binders_open _ _ _ _ c.in-Some.ensures.is (rw c.in-Some-2.is at c.in_ok-bound.ensures.is) c.in_default-symbol_at.ensures.is

pub returns-clause-is : goal.returns-clause-is
returns-clause-is c =
    binders_read _ _ _ _ _ c.in-Some.ensures.is (rw c.in-Some-2.is at c.in_ok-bound.ensures.is) c.in-Some-symbol_at.ensures.is
