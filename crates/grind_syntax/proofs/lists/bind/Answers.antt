use Rattle.std.proofs.Common.{◌≡◌, ◌∷◌, subst, All}
use Rattle.std.specs.Prelude.{map}
use Rattle.std.proofs.lemmas.List.Elements.{All-head, All-tail}
use Rattle.grind_grammar.specs.Keeps.{IsPlaced, name_of}
use Rattle.grind_syntax.specs.Places.{IsPlacedBound}
use Rattle.grind_syntax.proofs.ListLemmas.{bound_more, all_more}
use Rattle.grind_syntax.proofs.lists.bind.Goals as goal

pub loop-name-preserved : goal.loop-name-preserved
loop-name-preserved c =
    let whole : c.loop-name.rest.now ≡ c.in-Some.name.now ∷ c.in-Some.tail.now = c.in-Some.ensures.cases.0 in
    record {
      so_far = λ text.
          bound_more text c.loop-name.binders c.push.new.self c.in-Some.name.now c.args.sort (map (name_of text) c.in-Some.tail.now) _ c.in_ok-push.ensures.ok
          (rw whole at (c.loop-name.invariant.so_far text));
      kept = λ text sort names.
          let before = c.loop-name.invariant.kept text sort names in
          let rest = subst (All (IsPlaced text)) whole before.1 in (
            all_more (IsPlacedBound text) c.loop-name.binders c.push.new.self _ c.in_ok-push.ensures.ok before.0
                (All-head (IsPlaced text) c.in-Some.name.now c.in-Some.tail.now rest, sort),
            All-tail (IsPlaced text) c.in-Some.name.now c.in-Some.tail.now rest,
          );
    }
