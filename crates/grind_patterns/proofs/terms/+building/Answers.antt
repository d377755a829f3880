use Rattle.grind_patterns.specs.Patterns.{IsTerm}
use Rattle.grind_patterns.proofs.Along.{all_left, always, through_head}
use Rattle.grind_patterns.proofs.terms.+building.Goals as goal

pub are_terms-loop-scheme-preserved : goal.are_terms-loop-scheme-preserved
are_terms-loop-scheme-preserved t c =
    all_left IsTerm c.args.schemes.now c.loop-scheme.scheme-index c.scheme-item.result c.loop-scheme-test.true
    c.scheme-item.is (c.is_term.ensures.0 c.if-not-is_term.false) c.loop-scheme.invariant

pub are_terms-returns : goal.are_terms-returns
are_terms-returns t c =
    always IsTerm c.args.schemes.now c.loop-scheme.scheme-index c.loop-scheme-test.false c.loop-scheme.invariant

pub is_term-returns-then-is_term_head : goal.is_term-returns-then-is_term_head
is_term-returns-then-is_term_head t c =
    through_head c.are_terms.result c.in-Apply.head c.in-Apply.sort c.in-Apply.args c.args.scheme.now c.deref.result.now
    c.in-Apply.is c.deref.ensures.value (c.is_term_head.ensures.0 c.if-is_term_head.true) c.are_terms.ensures
