use Rattle.std.proofs.Common.{◌∙◌, ap, sym}
use Rattle.std.specs.Option.{option_map}
use Rattle.grind_grammar.specs.Terms.{Pattern}
use Rattle.grind_grammar.specs.Reading.{read}
use Rattle.grind_syntax.proofs.AnnotationLemmas.{patterns_all}
use Rattle.grind_syntax.specs.Sources.{ahead}
use Rattle.grind_syntax.proofs.annotations.patterns.Goals as goal

pub returns-in_default-2-clause-is : goal.returns-in_default-2-clause-is
returns-in_default-2-clause-is c =
    let source = c.args.source.now in
    let text = source.text.now in
    let kept = rw c.in_default-2.is at (c.in_ok-trees.ensures.is text) in
    patterns_all _ _ _ (rw c.in-Some.is at c.in_ok-parts.ensures.is)
    ∙ ap (λ ts. read (option_map Pattern ts) (ahead source c.in-Some.left)) (sym kept)

pub returns-clause-is : goal.returns-clause-is
returns-clause-is c =
    let source = c.args.source.now in
    let text = source.text.now in
    let kept = rw c.in-Some-2.is at (c.in_ok-trees.ensures.is text) in
    patterns_all _ _ _ (rw c.in-Some.is at c.in_ok-parts.ensures.is)
    ∙ ap (λ ts. read (option_map Pattern ts) (ahead source c.in-Some.left)) (sym kept)
