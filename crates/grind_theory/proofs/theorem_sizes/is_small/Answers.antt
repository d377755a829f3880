use Rattle.grind_grammar.specs.Keeps.{term_of}
use Rattle.grind_annotations.specs.Written.{annotations_of}
use Rattle.grind_theory.proofs.TheoremNodes.{small-counted}
use Rattle.grind_theory.proofs.theorem_sizes.is_small.Goals as goal

pub returns : goal.returns
returns c = λ text.
    small-counted c.args.vars.now (annotations_of text c.args.annots.now) (term_of text c.args.body.now) c.size_of-own.result c.size_of_annots-below.result c.sum_within.result
    c.if-vars-gt16.false (c.size_of-own.ensures.value text) (c.size_of_annots-below.ensures.value text) c.sum_within.ensures.value
