use Rattle.std.proofs.Common.{◌≡◌, ◌∷◌, ◌+◌, min, subst}
use Rattle.grind_annotations.specs.Written.{sizes, terms_of}
use Rattle.grind_annotations.proofs.ItemLemmas.{no_items}
use Rattle.grind_annotations.proofs.SizeLemmas.{size-next, size-end}
use Rattle.grind_grammar.specs.Keeps.{term_of}
use Rattle.grind_resolution.specs.Sizes.{size}
use Rattle.grind_annotations.proofs.sizes.size_of_trees.Goals as goal

pub loop-tree-preserved : goal.loop-tree-preserved
loop-tree-preserved c =
    let p : c.loop-tree.rest.now ≡ c.in-Some.tree.now ∷ c.in-Some.later.now = cc ((c.in-Some.ensures.cases).0) in
    record {
      value = λ text.
          size-next (size (term_of text c.in-Some.tree.now)) (sizes (terms_of text c.in-Some.later.now)) c.loop-tree.total c.size_of-own.result c.sum_within-next.result c.args.limit
          (min (sizes (terms_of text c.args.trees.now)) c.args.limit) (c.size_of-own.ensures.value text) c.sum_within-next.ensures.value
          (subst (λ rest. min (c.loop-tree.total + sizes (terms_of text rest)) c.args.limit ≡ min (sizes (terms_of text c.args.trees.now)) c.args.limit) p (c.loop-tree.invariant.value text));
      within = c.sum_within-next.ensures.within;
    }

pub returns-clause-value : goal.returns-clause-value
returns-clause-value c = λ text.
    size-end c.loop-tree.total c.args.limit (min (sizes (terms_of text c.args.trees.now)) c.args.limit) c.loop-tree.invariant.within
    (subst (λ rest. min (c.loop-tree.total + sizes (terms_of text rest)) c.args.limit ≡ min (sizes (terms_of text c.args.trees.now)) c.args.limit)
    (no_items c.loop-tree.rest.now c.in_default.ensures.cases) (c.loop-tree.invariant.value text))
