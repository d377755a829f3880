use Rattle.std.specs.Prelude.{Any}
use Rattle.grind_patterns.specs.Patterns.{HasUncovered}
use Rattle.grind_patterns.proofs.Along.{fails, any_left, never, through, HasUncovered-Apply}
use Rattle.grind_patterns.proofs.terms.+covering.Goals as goal

pub any_has_uncovered-loop-scheme-preserved : goal.any_has_uncovered-loop-scheme-preserved
any_has_uncovered-loop-scheme-preserved t c =
    any_left (HasUncovered c.args.terms.now) c.args.schemes.now c.loop-scheme.scheme-index c.scheme-item.result c.loop-scheme-test.true
    c.scheme-item.is (fails c.has_uncovered.result (HasUncovered c.args.terms.now c.scheme-item.result) c.has_uncovered.ensures c.if-has_uncovered.false)
    c.loop-scheme.invariant

pub any_has_uncovered-returns : goal.any_has_uncovered-returns
any_has_uncovered-returns t c =
    never (HasUncovered c.args.terms.now) c.args.schemes.now c.loop-scheme.scheme-index c.loop-scheme-test.false c.loop-scheme.invariant

pub has_uncovered-returns-in-Apply : goal.has_uncovered-returns-in-Apply
has_uncovered-returns-in-Apply t c =
    through (HasUncovered c.args.terms.now) (Any (HasUncovered c.args.terms.now)) c.any_has_uncovered.result c.in-Apply.head c.in-Apply.sort c.in-Apply.args c.args.scheme.now
    c.deref.result.now c.in-Apply.is c.deref.ensures.value
    (HasUncovered-Apply c.args.terms.now c.in-Apply.head c.in-Apply.sort c.in-Apply.args) c.any_has_uncovered.ensures
