use Rattle.std.specs.Prelude.{List, All, length, refl}
use Rattle.std.proofs.Common.{arith, ap, ◌∙◌, sym, subst}
use Rattle.grind_classes.specs.Classes.{Grouping}
use Rattle.grind_class_joins.specs.declared.joins.Pair.{Pair}
use Rattle.grind_class_joins.specs.Joins.{IsActivePair, MergesFirst}
use Rattle.grind_class_joins.proofs.JoinsLemmas.{AreMergedSoFar, AreMergedSoFar-start, AreMergedSoFar-step, AreMergedSoFar-end, AreMergedSoFar-first, on_err, still_active, Merges-bound}
use Rattle.grind_class_joins.proofs.joins.merge_all.Goals as goal

pub loop-pair-init : goal.loop-pair-init
loop-pair-init c =
    let lists = c.args.classes.now.lists in
    let pairs = c.args.pairs.now in record {
      merged = subst (λ (ps : List Pair). AreMergedSoFar lists pairs ps lists 0) (sym c.as_slice-rest.ensures.value) (AreMergedSoFar-start lists pairs);
      pairs = subst (λ (ps : List Pair). All (IsActivePair lists) ps) (sym c.as_slice-rest.ensures.value) c.requires;
      active = λ n. ((λ is. is), (λ is. is));
      marked = refl;
      count = omega (arith, ap (λ (ps : List Pair). length ps) c.as_slice-rest.ensures.value);
      small = omega arith;
    }

pub returns-in_err-more-clause-active : goal.returns-in_err-more-clause-active
returns-in_err-more-clause-active c = λ n. (
  λ is. (c.loop-pair.invariant.active n).0 ((c.merge_pair.ensures.active n).0 is),
  λ is. (c.merge_pair.ensures.active n).1 ((c.loop-pair.invariant.active n).1 is),
)

pub loop-pair-preserved : goal.loop-pair-preserved
loop-pair-preserved c =
    let before = c.loop-pair.invariant in record {
      merged = AreMergedSoFar-step c.args.classes.now.lists c.args.pairs.now c.loop-pair.rest.now c.in-Some.tail.now c.in-Some.pair.now
          c.loop-pair.classes.lists c.merge_pair.new.classes.lists c.loop-pair.moved c.in_ok-more.more _ c.in-Some.ensures.cases.0 refl
          before.merged c.in_ok-more.ensures.merges;
      pairs = still_active c.loop-pair.classes.lists c.merge_pair.new.classes.lists c.loop-pair.rest.now c.in-Some.tail.now c.in-Some.pair.now
          c.in-Some.ensures.cases.0 c.merge_pair.ensures.active before.pairs;
      active = λ n. (
        λ is. (before.active n).0 ((c.merge_pair.ensures.active n).0 is),
        λ is. (c.merge_pair.ensures.active n).1 ((before.active n).1 is),
      );
      marked = c.merge_pair.ensures.marked ∙ before.marked;
      count = omega (arith, before.count, ap (λ (ps : List Pair). length ps) c.in-Some.ensures.cases.0);
      small = omega (arith, before.small);
    }

pub returns-clause-merges : goal.returns-clause-merges
returns-clause-merges c =
    AreMergedSoFar-end c.args.classes.now.lists c.args.pairs.now c.loop-pair.rest.now c.loop-pair.classes.lists c.loop-pair.moved
    c.in_default.ensures.cases c.loop-pair.invariant.merged

pub returns-clause-bound : goal.returns-clause-bound
returns-clause-bound c = λ b power.
    Merges-bound b c.args.classes.now.lists c.loop-pair.classes.lists c.args.pairs.now c.loop-pair.moved power
    (AreMergedSoFar-end c.args.classes.now.lists c.args.pairs.now c.loop-pair.rest.now c.loop-pair.classes.lists c.loop-pair.moved
    c.in_default.ensures.cases c.loop-pair.invariant.merged)

pub returns-in_err-more-clause-err : goal.returns-in_err-more-clause-err
returns-in_err-more-clause-err c =
    on_err c.from_residual.result
    (subst (λ (it : Grouping). MergesFirst c.args.classes.now.lists c.args.pairs.now it.lists) (sym c.in_err-more.ensures.err)
    (AreMergedSoFar-first c.args.classes.now.lists c.args.pairs.now c.loop-pair.rest.now c.loop-pair.classes.lists c.loop-pair.moved
    c.loop-pair.invariant.merged))
