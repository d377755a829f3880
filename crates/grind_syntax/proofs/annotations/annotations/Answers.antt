use Rattle.std.proofs.Common.{◌∙◌, ◌∷◌, ◌++◌, [], ap, sym, arith}
use Rattle.std.proofs.lemmas.List.Elements.{All-nil}
use Rattle.grind_grammar.specs.Reading.{all_of, read}
use Rattle.grind_syntax.specs.Levels.{level}
use Rattle.grind_syntax.specs.declared.levels.Level.TheVariants as levels
use Rattle.grind_syntax.specs.Annotated.{annotation_given, with_annotation, IsPlacedAnnotation}
use Rattle.grind_syntax.proofs.Items.{map_read, reach_past, past_then_reach, fewer_ahead}
use Rattle.grind_syntax.proofs.AnnotationLemmas.{annots_begin, annots_next, annots_fail, annots_end, annots_last, no_annots}
use Rattle.grind_syntax.proofs.Fronts.{ahead_enough}
use Rattle.grind_syntax.specs.Sources.{ahead, count_ahead, IsPast}
use Rattle.grind_syntax.proofs.annotations.annotations.Goals as goal

pub loop-mid-init : goal.loop-mid-init
loop-mid-init c =
    let source = c.args.source.now in
    let text = source.text.now in
    rw c.new.ensures record {
      done = [];
      so_far = annots_begin (level levels.Sum c.args.room) (ahead source c.args.at) _ (ahead_enough source c.args.at);
      all = sym no_annots;
      placed = All-nil (IsPlacedAnnotation text);
      behind = omega arith;
    }

pub returns-in_default-2-clause-is : goal.returns-in_default-2-clause-is
returns-in_default-2-clause-is c =
    annots_fail (level levels.Sum c.args.room) _ _ _ _ c.loop-mid.invariant.so_far _ c.in-Some.ensures.is (rw c.in_default-2.is at c.in_ok-annot.ensures.is)

pub loop-mid-preserved : goal.loop-mid-preserved
loop-mid-preserved c =
    let source = c.args.source.now in
    let text = source.text.now in
    let left = rw c.in-Some-2.is at c.in_ok-annot.ensures.left in
    let past : IsPast source c.loop-mid.rest c.in-Some-2.left =
    past_then_reach source c.loop-mid.rest c.in-Some.mid c.in-Some-2.left c.in-Some.ensures.left left.1 in
    record {
      done = c.loop-mid.invariant.done ++ annotation_given text c.in-Some-2.annot ∷ [];
      so_far = annots_next (level levels.Sum c.args.room) _ _ _ _ c.loop-mid.invariant.so_far (ahead source c.in-Some.mid)
          (annotation_given text c.in-Some-2.annot) (ahead source c.in-Some-2.left) (count_ahead source c.in-Some-2.left) c.in-Some.ensures.is
          (rw c.in-Some-2.is at c.in_ok-annot.ensures.is) (fewer_ahead source _ _ past);
      all = c.in_ok-annots.ensures.is text ∙ ap (λ xs. with_annotation xs (annotation_given text c.in-Some-2.annot)) c.loop-mid.invariant.all
          ∙ sym (annots_last c.loop-mid.invariant.done (annotation_given text c.in-Some-2.annot));
      placed = c.in_ok-annots.ensures.placed text c.loop-mid.invariant.placed left.0;
      behind = reach_past source c.args.at c.loop-mid.rest c.in-Some-2.left c.loop-mid.invariant.behind past;
    }

pub returns-clause-is : goal.returns-clause-is
returns-clause-is c =
    let source = c.args.source.now in
    let text = source.text.now in
    map_read all_of _ _ _ (annots_end (level levels.Sum c.args.room) _ _ _ _ c.loop-mid.invariant.so_far c.in_default.ensures.is)
    ∙ ap (λ xs. read xs (ahead source c.loop-mid.rest)) (sym c.loop-mid.invariant.all)
