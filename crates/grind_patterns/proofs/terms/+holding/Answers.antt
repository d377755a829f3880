use Rattle.std.specs.Prelude.{Any}
use Rattle.grind_schemes.specs.Schemes.{HasVar}
use Rattle.grind_schemes.proofs.SchemeLemmas.{HasVar-Apply}
use Rattle.grind_patterns.proofs.Along.{fails, any_left, never, through}
use Rattle.grind_patterns.proofs.terms.+holding.Goals as goal

pub any_has_var-loop-scheme-preserved : goal.any_has_var-loop-scheme-preserved
any_has_var-loop-scheme-preserved t c =
    any_left (HasVar c.args.variable) c.args.schemes.now c.loop-scheme.scheme-index c.scheme-item.result c.loop-scheme-test.true
    c.scheme-item.is (fails c.has_var.result (HasVar c.args.variable c.scheme-item.result) c.has_var.ensures c.if-has_var.false)
    c.loop-scheme.invariant

pub any_has_var-returns : goal.any_has_var-returns
any_has_var-returns t c =
    never (HasVar c.args.variable) c.args.schemes.now c.loop-scheme.scheme-index c.loop-scheme-test.false c.loop-scheme.invariant

pub has_var-returns-in-Apply : goal.has_var-returns-in-Apply
has_var-returns-in-Apply t c =
    through (HasVar c.args.variable) (Any (HasVar c.args.variable)) c.any_has_var.result c.in-Apply.head c.in-Apply.sort c.in-Apply.args c.args.scheme.now
    c.deref.result.now c.in-Apply.is c.deref.ensures.value
    (HasVar-Apply c.args.variable c.in-Apply.head c.in-Apply.sort c.in-Apply.args) c.any_has_var.ensures
