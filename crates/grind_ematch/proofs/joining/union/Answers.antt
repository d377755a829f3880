use Rattle.std.proofs.Common.{◌≡◌, ◌≢◌, length, sym, ◌∙◌, eqb-true}
use Rattle.std.proofs.lemmas.Bool.{eqb-false}
use Rattle.grind_ematch.proofs.UnionLemmas.{IsHalfUnion-first, IsHalfUnion-next, IsHalfUnion-last, none_by_others, none_by_slot, none_by_rest}
use Rattle.grind_ematch.proofs.joining.union.Goals as goal

pub loop-one-init : goal.loop-one-init
loop-one-init c = IsHalfUnion-first c.args.left.now c.args.right.now c.new-both.result c.new-both.ensures

pub loop-one-preserved : goal.loop-one-preserved
loop-one-preserved c =
    IsHalfUnion-next c.args.left.now c.args.right.now c.loop-one.both c.loop-one.rest.now c.loop-one.others.now
    c.in-Some.tail.now c.in-Some-split_first.behind.now c.push.new.self
    c.in-Some.one.now c.in-Some-split_first.other.now c.in-Some-slot_of.slot
    c.in-Some.ensures.cases.0 c.in-Some-split_first.ensures.cases.0 c.in-Some-slot_of.ensures c.in_ok-push.ensures.ok
    c.loop-one.invariant

pub returns-in_default-split_first : goal.returns-in_default-split_first
returns-in_default-split_first c =
    none_by_others c.args.left.now c.args.right.now c.loop-one.both c.loop-one.rest.now c.loop-one.others.now
    c.loop-one.invariant c.in-Some.one.now c.in-Some.tail.now c.in-Some.ensures.cases.0 c.in_default-split_first.ensures.cases

pub returns-in_default-slot_of : goal.returns-in_default-slot_of
returns-in_default-slot_of c =
    none_by_slot c.args.left.now c.args.right.now c.loop-one.both c.loop-one.rest.now c.loop-one.others.now
    c.loop-one.invariant c.in-Some.one.now c.in-Some-split_first.other.now c.in-Some.tail.now c.in-Some-split_first.behind.now
    c.in-Some.ensures.cases.0 c.in-Some-split_first.ensures.cases.0 c.in_default-slot_of.ensures

pub returns-then-is_empty : goal.returns-then-is_empty
returns-then-is_empty c =
    let none : length c.loop-one.others.now ≡ 0 =
    eqb-true (length c.loop-one.others.now) 0 (sym c.is_empty.ensures ∙ c.if-is_empty.true) in
    let union = IsHalfUnion-last c.args.left.now c.args.right.now c.loop-one.both c.loop-one.rest.now c.loop-one.others.now
    c.in_default.ensures.cases none c.loop-one.invariant in
    rw c.new.ensures union

pub returns : goal.returns
returns c =
    let some : length c.loop-one.others.now ≢ 0 =
    eqb-false (length c.loop-one.others.now) 0 (sym c.is_empty.ensures ∙ c.if-is_empty.false) in
    none_by_rest c.args.left.now c.args.right.now c.loop-one.both c.loop-one.rest.now c.loop-one.others.now
    c.loop-one.invariant c.in_default.ensures.cases some
