use Rattle.std.proofs.Common.{◌≤◌, ◌≡◌, List, Option}
use Rattle.grind_grammar.specs.Terms.{Annotation}
use Rattle.grind_grammar.specs.Reading.{all_of}
use Rattle.grind_syntax.specs.Levels.{level}
use Rattle.grind_syntax.specs.declared.levels.Level.TheVariants as levels
use Rattle.grind_syntax.specs.Annotated.{annotations_given, ArePlacedAnnots, AnnotsSoFar}
use Rattle.grind_syntax.specs.Sources.{ahead, count_ahead}
use Rattle.grind_syntax.proofs.annotations.annotations.Given as goal

abbrev pub invariant-loop-mid : goal.invariant-loop-mid
invariant-loop-mid l = record {
  done : List (Option Annotation);
  so_far : AnnotsSoFar (level levels.Sum l.room) (ahead l.source l.at) done (ahead l.source l.rest) (count_ahead l.source l.rest);
  all : annotations_given l.source.text.now l.annots ≡ all_of done;
  placed : ArePlacedAnnots l.source.text.now l.annots;
  behind : l.at ≤ l.rest;
}

abbrev pub decreases-loop-mid : goal.decreases-loop-mid
decreases-loop-mid l = count_ahead l.source l.rest
