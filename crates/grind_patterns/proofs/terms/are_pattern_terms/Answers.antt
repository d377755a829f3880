use Rattle.grind_patterns.specs.Patterns.{IsPatternTerm}
use Rattle.grind_patterns.proofs.Along.{all_left, always}
use Rattle.grind_patterns.proofs.terms.are_pattern_terms.Goals as goal

pub loop-scheme-preserved : goal.loop-scheme-preserved
loop-scheme-preserved c =
    all_left IsPatternTerm c.args.schemes.now c.loop-scheme.scheme-index c.scheme-item.result c.loop-scheme-test.true
    c.scheme-item.is (c.is_pattern_term.ensures.0 c.if-not-is_pattern_term.false) c.loop-scheme.invariant

pub returns : goal.returns
returns c =
    always IsPatternTerm c.args.schemes.now c.loop-scheme.scheme-index c.loop-scheme-test.false c.loop-scheme.invariant
