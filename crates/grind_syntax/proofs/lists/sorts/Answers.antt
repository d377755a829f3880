use Rattle.std.proofs.Common.{◌∙◌, ap, sym, subst, arith}
use Rattle.std.proofs.lemmas.List.Elements.{All-nil}
use Rattle.grind_tokens.specs.declared.tokens.Sym.TheVariants as symbols
use Rattle.grind_grammar.specs.Keeps.{IsPlaced, name_of}
use Rattle.grind_grammar.specs.Reading.{sort_at, read}
use Rattle.grind_syntax.specs.Places.{ItemsSoFar}
use Rattle.grind_syntax.proofs.Items.{items_begin, items_next, items_last, items_none, reach_past, past_on, fewer_ahead}
use Rattle.grind_syntax.proofs.ListLemmas.{kept_more, all_more}
use Rattle.grind_syntax.proofs.Fronts.{ahead_enough}
use Rattle.grind_syntax.specs.Sources.{ahead, count_ahead}
use Rattle.grind_syntax.proofs.lists.sorts.Goals as goal

pub loop-sort-init : goal.loop-sort-init
loop-sort-init c =
    let source = c.args.source.now in
    let text = source.text.now in
    rw c.new-sorts.ensures record {
      so_far = items_begin sort_at symbols.Comma (ahead source c.args.at) _ (ahead_enough source c.args.at);
      kept = All-nil (IsPlaced text);
      behind = omega arith;
    }

pub returns-in_default-symbol_at-clause-is : goal.returns-in_default-symbol_at-clause-is
returns-in_default-symbol_at-clause-is c =
    let source = c.args.source.now in
    let text = source.text.now in
    items_last sort_at symbols.Comma _ _ _ _ c.loop-sort.invariant.so_far (name_of text c.in-Some.sort) (ahead source c.in-Some.after)
    c.in-Some.ensures.is c.in_default-symbol_at.ensures.is
    ∙ ap (λ xs. read xs (ahead source c.in-Some.after)) (sym (kept_more (name_of text) c.loop-sort.sorts c.push.new.self c.in-Some.sort c.in_ok-push.ensures.ok))

pub returns-in_default-symbol_at-clause-left : goal.returns-in_default-symbol_at-clause-left
returns-in_default-symbol_at-clause-left c =
    let source = c.args.source.now in
    let text = source.text.now in (
      all_more (IsPlaced text) c.loop-sort.sorts c.push.new.self c.in-Some.sort c.in_ok-push.ensures.ok c.loop-sort.invariant.kept c.in-Some.ensures.left.0,
      reach_past source c.args.at c.loop-sort.rest c.in-Some.after c.loop-sort.invariant.behind c.in-Some.ensures.left.1,
    )

pub loop-sort-preserved : goal.loop-sort-preserved
loop-sort-preserved c =
    let source = c.args.source.now in
    let text = source.text.now in
    let past = past_on source c.loop-sort.rest c.in-Some.after c.in-Some-symbol_at.left c.in-Some.ensures.left.1 c.in-Some-symbol_at.ensures.left in
    let made = kept_more (name_of text) c.loop-sort.sorts c.push.new.self c.in-Some.sort c.in_ok-push.ensures.ok in
    record {
      so_far = subst (λ xs. ItemsSoFar sort_at symbols.Comma (ahead source c.args.at) xs (ahead source c.in-Some-symbol_at.left) (count_ahead source c.in-Some-symbol_at.left))
          (sym made)
          (items_next sort_at symbols.Comma _ _ _ _ c.loop-sort.invariant.so_far (name_of text c.in-Some.sort) (ahead source c.in-Some.after)
          (ahead source c.in-Some-symbol_at.left) (count_ahead source c.in-Some-symbol_at.left) c.in-Some.ensures.is c.in-Some-symbol_at.ensures.is (fewer_ahead source _ _ past));
      kept = all_more (IsPlaced text) c.loop-sort.sorts c.push.new.self c.in-Some.sort c.in_ok-push.ensures.ok c.loop-sort.invariant.kept c.in-Some.ensures.left.0;
      behind = reach_past source c.args.at c.loop-sort.rest c.in-Some-symbol_at.left c.loop-sort.invariant.behind past;
    }

pub returns-clause-is : goal.returns-clause-is
returns-clause-is c =
    items_none sort_at symbols.Comma _ _ _ _ c.loop-sort.invariant.so_far c.in_default.ensures.is
