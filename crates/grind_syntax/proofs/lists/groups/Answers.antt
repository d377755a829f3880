use Rattle.std.proofs.Common.{◌≡◌, ◌∙◌, ◌++◌, [], ◌∷◌, ap, sym, subst, rules, All, arith}
use Rattle.std.specs.Prelude.{map}
use Rattle.std.proofs.lemmas.List.Elements.{All-nil, All-append}
use Rattle.grind_tokens.specs.declared.tokens.Sym.TheVariants as symbols
use Rattle.grind_grammar.specs.Grammar.{joined}
use Rattle.grind_grammar.specs.Reading.{group, read}
use Rattle.grind_syntax.specs.Places.{bound_of, IsPlacedBound}
use Rattle.grind_syntax.proofs.Items.{items_begin, items_next, items_last, items_none, map_read, reach_past, reach_on, reach_then_past, fewer_ahead}
use Rattle.grind_syntax.proofs.ListLemmas.{joined_more}
use Rattle.grind_syntax.proofs.Fronts.{ahead_enough}
use Rattle.grind_syntax.specs.Sources.{ahead, count_ahead, IsPast}
use Rattle.grind_syntax.proofs.lists.groups.Goals as goal

pub loop-binders-init : goal.loop-binders-init
loop-binders-init c =
    let source = c.args.source.now in
    let text = source.text.now in
    rw c.new-binders.ensures record {
      done = [];
      so_far = items_begin group symbols.Comma (ahead source c.args.at) _ (ahead_enough source c.args.at);
      all = search rules;
      kept = All-nil (IsPlacedBound text);
      behind = omega arith;
    }

pub returns-in_default-symbol_at-clause-is : goal.returns-in_default-symbol_at-clause-is
returns-in_default-symbol_at-clause-is c =
    let source = c.args.source.now in
    let text = source.text.now in
    let found = rw c.in-Some.is at c.in_ok-bound.ensures.is in
    let grown : c.extend.new.self ≡ c.loop-binders.binders ++ c.in-Some.bound =
    c.in_ok-extend.ensures.ok ∙ ap (λ xs. c.loop-binders.binders ++ xs) c.as_slice.ensures.value in
    map_read joined _ _ _
    (items_last group symbols.Comma _ _ _ _ c.loop-binders.invariant.so_far (map (bound_of text) c.in-Some.bound) (ahead source c.in-Some.after)
    found c.in_default-symbol_at.ensures.is)
    ∙ ap (λ bs. read bs (ahead source c.in-Some.after))
    (sym (joined_more (bound_of text) c.loop-binders.binders c.in-Some.bound c.extend.new.self c.loop-binders.invariant.done c.loop-binders.invariant.all grown))

pub returns-in_default-symbol_at-clause-left : goal.returns-in_default-symbol_at-clause-left
returns-in_default-symbol_at-clause-left c =
    let source = c.args.source.now in
    let text = source.text.now in
    let left = rw c.in-Some.is at c.in_ok-bound.ensures.left in
    let grown : c.extend.new.self ≡ c.loop-binders.binders ++ c.in-Some.bound =
    c.in_ok-extend.ensures.ok ∙ ap (λ xs. c.loop-binders.binders ++ xs) c.as_slice.ensures.value in (
      subst (All (IsPlacedBound text)) (sym grown)
          (All-append (IsPlacedBound text) c.loop-binders.binders c.in-Some.bound c.loop-binders.invariant.kept left.0),
      reach_on source c.args.at c.loop-binders.rest c.in-Some.after c.loop-binders.invariant.behind left.1,
    )

pub loop-binders-preserved : goal.loop-binders-preserved
loop-binders-preserved c =
    let source = c.args.source.now in
    let text = source.text.now in
    let found = rw c.in-Some.is at c.in_ok-bound.ensures.is in
    let left = rw c.in-Some.is at c.in_ok-bound.ensures.left in
    let grown : c.extend.new.self ≡ c.loop-binders.binders ++ c.in-Some.bound =
    c.in_ok-extend.ensures.ok ∙ ap (λ xs. c.loop-binders.binders ++ xs) c.as_slice.ensures.value in
    let past : IsPast source c.loop-binders.rest c.in-Some-symbol_at.left =
    reach_then_past source c.loop-binders.rest c.in-Some.after c.in-Some-symbol_at.left left.1 c.in-Some-symbol_at.ensures.left in
    record {
      done = c.loop-binders.invariant.done ++ map (bound_of text) c.in-Some.bound ∷ [];
      so_far = items_next group symbols.Comma _ _ _ _ c.loop-binders.invariant.so_far (map (bound_of text) c.in-Some.bound) (ahead source c.in-Some.after)
          (ahead source c.in-Some-symbol_at.left) (count_ahead source c.in-Some-symbol_at.left) found c.in-Some-symbol_at.ensures.is (fewer_ahead source _ _ past);
      all = joined_more (bound_of text) c.loop-binders.binders c.in-Some.bound c.extend.new.self c.loop-binders.invariant.done c.loop-binders.invariant.all grown;
      kept = subst (All (IsPlacedBound text)) (sym grown)
          (All-append (IsPlacedBound text) c.loop-binders.binders c.in-Some.bound c.loop-binders.invariant.kept left.0);
      behind = reach_past source c.args.at c.loop-binders.rest c.in-Some-symbol_at.left c.loop-binders.invariant.behind past;
    }

pub returns-clause-is : goal.returns-clause-is
returns-clause-is c =
    items_none group symbols.Comma _ _ _ _ c.loop-binders.invariant.so_far (rw c.in_default.is at c.in_ok-bound.ensures.is)
