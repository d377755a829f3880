use Rattle.std.specs.Prelude.{◌≡◌, ◌∷◌}
use Rattle.std.proofs.lemmas.List.Elements.{All-head, All-tail}
use Rattle.grind_classes.specs.Classes.{IsActive, AreTogether}
use Rattle.grind_congruence.proofs.search.are_all_same.Goals as goal

pub same-requires-clause-first : goal.same-requires-clause-first
same-requires-clause-first c =
    let rest_is : c.loop-x.rest.now ≡ c.in-Some.x.now ∷ c.in-Some.tail.now = c.in-Some.ensures.cases.0 in
    All-head (IsActive c.args.classes.now.lists) c.in-Some.x.now c.in-Some.tail.now (rw rest_is at c.loop-x.invariant.left)

pub loop-x-preserved : goal.loop-x-preserved
loop-x-preserved c =
    let rest_is : c.loop-x.rest.now ≡ c.in-Some.x.now ∷ c.in-Some.tail.now = c.in-Some.ensures.cases.0 in
    let others_is : c.loop-x.others.now ≡ c.in-Some-split_first.y.now ∷ c.in-Some-split_first.other_tail.now = c.in-Some-split_first.ensures.cases.0 in
    let together : AreTogether c.args.classes.now.lists c.in-Some.x.now c.in-Some-split_first.y.now = c.same.ensures.0 c.if-not-same.false in
    let whole = c.loop-x.invariant.whole in
    record {
      whole = (
        λ rest. whole.0 (rw (rest_is, others_is) (together, rest)),
        λ all. (rw (rest_is, others_is) at (whole.1 all)).1,
      );
      left = All-tail (IsActive c.args.classes.now.lists) c.in-Some.x.now c.in-Some.tail.now (rw rest_is at c.loop-x.invariant.left);
      right = All-tail (IsActive c.args.classes.now.lists) c.in-Some-split_first.y.now c.in-Some-split_first.other_tail.now (rw others_is at c.loop-x.invariant.right);
    }
