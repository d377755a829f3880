use Rattle.std.proofs.Common.{ℕ, ◌<◌, slice_index_or}
use Rattle.std.specs.List.{AllByRecursion}
use Rattle.grind_grammar.specs.declared.syntax.Annot.{Annot}
use Rattle.grind_resolution.specs.Contexts.{gives_in}
use Rattle.grind_annotations.specs.Written.{written, annotation_of}
use Rattle.grind_annotations.specs.Asking.{Answers}
use Rattle.grind_annotations.proofs.questions.annots_answer.Given as goal

-- it is so of the terms of each annotation so far
abbrev pub invariant-loop-annot : goal.invariant-loop-annot
invariant-loop-annot l =
    (k : ℕ) (d : Annot) → k < l.annot-index → AllByRecursion (Answers l.question (gives_in l.context)) (written (annotation_of l.context.text.now (slice_index_or l.annots k d)))
