use Rattle.std.specs.Prelude.{◌≡◌, ◌+◌, ◌-◌, ◌<◌, Some, ℕ, List, length, slice_get}
use Rattle.std.proofs.Common.{arith, sym, ap, ◌∙◌, get_or}
use Rattle.std.proofs.lemmas.Option.{slice_get_within}
use Rattle.grind_congruence.specs.declared.forest.Join.{Join}
use Rattle.grind_congruence.proofs.ForestLemmas.{item_read}
use Rattle.grind_congruence.proofs.LegLemmas.{left_climbs, right_climbs, never_both, differ_of, same_of, other_of}
use Rattle.grind_congruence.proofs.legs.split_of.Goals as goal

pub returns-in_default : goal.returns-in_default
returns-in_default c =
    absurd (differ_of c.loop-x.x c.loop-x.y c.loop-x-test.ensures
    (never_both c.args.forest.now c.args.a c.args.b c.loop-x.x c.loop-x.y c.loop-x.count c.loop-x.invariant.left c.loop-x.invariant.right
    c.loop-x.invariant.within c.in_default.ensures.0 c.in_default.ensures.1 c.requires.joined))

pub bounds-joins-place : goal.bounds-joins-place
bounds-joins-place c = rw c.joins.ensures.value (slice_get_within c.args.forest.now c.in-Some.place c.in-Some.ensures.join c.in-Some.ensures.stands)

pub overflow_add-count : goal.overflow_add-count
overflow_add-count c =
    let inside = slice_get_within c.args.forest.now c.in-Some.place c.in-Some.ensures.join c.in-Some.ensures.stands in
    omega (arith, inside, c.joins.ensures.bound, ap {B = ℕ} (λ (js : List Join). length js) c.joins.ensures.value)

stands_then : (c : goal.Then-eq) → slice_get c.args.forest.now c.in-Some.place ≡ Some c.index-joins-place.result
stands_then c =
    let is : c.index-joins-place.result ≡ get_or c.args.forest.now c.in-Some.place c.index-joins-place.result =
    rw c.joins.ensures.value at c.index-joins-place.is in
    item_read c.args.forest.now c.in-Some.place c.in-Some.ensures.join c.index-joins-place.result c.in-Some.ensures.stands ∙ ap Some (sym is)

stands_else : (c : goal.Else-eq) → slice_get c.args.forest.now c.in-Some.place ≡ Some c.index-joins-place.result
stands_else c =
    let is : c.index-joins-place.result ≡ get_or c.args.forest.now c.in-Some.place c.index-joins-place.result =
    rw c.joins.ensures.value at c.index-joins-place.is in
    item_read c.args.forest.now c.in-Some.place c.in-Some.ensures.join c.index-joins-place.result c.in-Some.ensures.stands ∙ ap Some (sym is)

pub loop-x-smaller-then-eq : goal.loop-x-smaller-then-eq
loop-x-smaller-then-eq c =
    let up = left_climbs c.args.forest.now c.args.a c.args.b c.loop-x.x c.loop-x.y c.loop-x.count c.in-Some.place c.index-joins-place.result
    c.joins.ensures.forest c.loop-x.invariant.left c.loop-x.invariant.right c.loop-x.invariant.within (differ_of c.loop-x.x c.loop-x.y c.loop-x-test.ensures)
    c.in-Some.ensures (stands_then c) (same_of c.index-joins-place.result.gone c.loop-x.x c.if-eq.ensures) in
    let less : length c.args.forest.now - (c.in-Some.place + 1) < length c.args.forest.now - c.loop-x.count = omega (arith, up.2, up.3) in
    less

pub loop-x-preserved-then-eq : goal.loop-x-preserved-then-eq
loop-x-preserved-then-eq c =
    let up = left_climbs c.args.forest.now c.args.a c.args.b c.loop-x.x c.loop-x.y c.loop-x.count c.in-Some.place c.index-joins-place.result
    c.joins.ensures.forest c.loop-x.invariant.left c.loop-x.invariant.right c.loop-x.invariant.within (differ_of c.loop-x.x c.loop-x.y c.loop-x-test.ensures)
    c.in-Some.ensures (stands_then c) (same_of c.index-joins-place.result.gone c.loop-x.x c.if-eq.ensures) in
    record { left = up.0; right = up.1; within = up.2; last = up.4 }

pub loop-x-smaller : goal.loop-x-smaller
loop-x-smaller c =
    let up = right_climbs c.args.forest.now c.args.a c.args.b c.loop-x.x c.loop-x.y c.loop-x.count c.in-Some.place c.index-joins-place.result
    c.joins.ensures.forest c.loop-x.invariant.left c.loop-x.invariant.right c.loop-x.invariant.within
    c.in-Some.ensures (stands_else c) (other_of c.index-joins-place.result.gone c.loop-x.x c.if-eq.ensures) in
    let less : length c.args.forest.now - (c.in-Some.place + 1) < length c.args.forest.now - c.loop-x.count = omega (arith, up.2, up.3) in
    less

pub loop-x-preserved : goal.loop-x-preserved
loop-x-preserved c =
    let up = right_climbs c.args.forest.now c.args.a c.args.b c.loop-x.x c.loop-x.y c.loop-x.count c.in-Some.place c.index-joins-place.result
    c.joins.ensures.forest c.loop-x.invariant.left c.loop-x.invariant.right c.loop-x.invariant.within
    c.in-Some.ensures (stands_else c) (other_of c.index-joins-place.result.gone c.loop-x.x c.if-eq.ensures) in
    record { left = up.0; right = up.1; within = up.2; last = up.4 }
