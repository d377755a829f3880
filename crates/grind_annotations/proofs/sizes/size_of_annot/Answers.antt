use Rattle.std.proofs.Common.{◌≡◌, sym, ap, subst, ◌∙◌, min}
use Rattle.grind_grammar.specs.Terms.{Pattern}
use Rattle.grind_annotations.specs.Written.{written, sizes, terms_of, annotation_of}
use Rattle.grind_annotations.proofs.sizes.size_of_annot.Goals as goal

pub returns-in-Pattern-clause-value : goal.returns-in-Pattern-clause-value
returns-in-Pattern-clause-value c = λ text.
    let made = ap (annotation_of text) c.in-Pattern.is ∙ ap (λ trees. Pattern (terms_of text trees)) (sym c.as_slice-terms.ensures.value) in
    subst (λ a. c.size_of_trees.result ≡ min (sizes (written a)) c.args.limit) (sym made) (c.size_of_trees.ensures.value text)
