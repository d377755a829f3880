use Rattle.std.proofs.Common.{All, length}
use Rattle.grind_grammar.specs.Keeps.{IsPlacedTree, term_of}
use Rattle.grind_resolution.specs.Contexts.{gives_in}
use Rattle.grind_resolution.specs.Sorting.{IsSorted}
use Rattle.grind_annotations.specs.Written.{terms_of}
use Rattle.grind_annotations.proofs.AnnotationLaws.{IsResolving}
use Rattle.grind_annotations.proofs.patterns.written_schemes.Given as goal

-- the terms that are left stand in the text and have sorts, and their schemes complete those of all
abbrev pub invariant-loop-tree : goal.invariant-loop-tree
invariant-loop-tree l = record {
  placed : All (IsPlacedTree l.context.text.now) l.rest;
  sorted : All (λ tree. IsSorted (gives_in l.context) (term_of l.context.text.now tree)) l.rest;
  resolving : IsResolving (gives_in l.context) (terms_of l.context.text.now l.fn.trees) (terms_of l.context.text.now l.rest) l.schemes;
}

abbrev pub decreases-loop-tree : goal.decreases-loop-tree
decreases-loop-tree l = length l.rest
