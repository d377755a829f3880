use Rattle.std.proofs.Common.{◌≡◌, ◌∷◌, ◌+◌, min, subst}
use Rattle.grind_annotations.specs.Written.{written, sizes, written_sizes, annotation_of, annotations_of}
use Rattle.grind_annotations.proofs.ItemLemmas.{no_items}
use Rattle.grind_annotations.proofs.SizeLemmas.{size-next, size-end}
use Rattle.grind_annotations.proofs.sizes.size_of_annots.Goals as goal

pub loop-annot-preserved : goal.loop-annot-preserved
loop-annot-preserved c =
    let p : c.loop-annot.rest.now ≡ c.in-Some.annot.now ∷ c.in-Some.later.now = cc ((c.in-Some.ensures.cases).0) in
    record {
      value = λ text.
          size-next (sizes (written (annotation_of text c.in-Some.annot.now))) (written_sizes (annotations_of text c.in-Some.later.now)) c.loop-annot.total c.size_of_annot-own.result c.sum_within-next.result c.args.limit
          (min (written_sizes (annotations_of text c.args.annots.now)) c.args.limit) (c.size_of_annot-own.ensures.value text) c.sum_within-next.ensures.value
          (subst (λ rest. min (c.loop-annot.total + written_sizes (annotations_of text rest)) c.args.limit ≡ min (written_sizes (annotations_of text c.args.annots.now)) c.args.limit) p (c.loop-annot.invariant.value text));
      within = c.sum_within-next.ensures.within;
    }

pub returns-clause-value : goal.returns-clause-value
returns-clause-value c = λ text.
    size-end c.loop-annot.total c.args.limit (min (written_sizes (annotations_of text c.args.annots.now)) c.args.limit) c.loop-annot.invariant.within
    (subst (λ rest. min (c.loop-annot.total + written_sizes (annotations_of text rest)) c.args.limit ≡ min (written_sizes (annotations_of text c.args.annots.now)) c.args.limit)
    (no_items c.loop-annot.rest.now c.in_default.ensures.cases) (c.loop-annot.invariant.value text))
