use Rattle.std.proofs.Common.{All, length}
use Rattle.grind_resolution.specs.Contexts.{gives_in}
use Rattle.grind_resolution.specs.Sorting.{IsSorted}
use Rattle.grind_annotations.specs.Written.{AllWritten, annotations_of, IsPlacedAnnot}
use Rattle.grind_annotations.proofs.AnnotationLaws.{IsAnnotating}
use Rattle.grind_annotations.proofs.patterns.lists_of_annots.Given as goal

-- the annotations that are left stand in the text and write terms of sorts, and what they give completes what all give
abbrev pub invariant-loop-annot : goal.invariant-loop-annot
invariant-loop-annot l = record {
  placed : All (IsPlacedAnnot l.context.text.now) l.rest;
  sorted : AllWritten (IsSorted (gives_in l.context)) (annotations_of l.context.text.now l.rest);
  annotating : IsAnnotating (gives_in l.context) l.vars l.body (annotations_of l.context.text.now l.fn.annots) (annotations_of l.context.text.now l.rest) l.lists;
}

abbrev pub decreases-loop-annot : goal.decreases-loop-annot
decreases-loop-annot l = length l.rest
