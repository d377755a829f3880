use Rattle.std.specs.Prelude.{◌≡◌, length, map}
use Rattle.grind_value_tables.specs.Overflows.{value_of}
use Rattle.grind_value_tables.proofs.Fronts.{same_behind}
use Rattle.grind_value_tables.proofs.functions.have_equal_values.Goals as goal

pub loop-a-preserved : goal.loop-a-preserved
loop-a-preserved c =
    same_behind (value_of c.args.list.now) (length c.args.list.now) c.in-Some.a.now c.in-Some-split_first.b.now
    c.in-Some.more.now c.in-Some-split_first.further.now c.loop-a.rest.now c.loop-a.others.now
    (map (value_of c.args.list.now) c.args.left.now ≡ map (value_of c.args.list.now) c.args.right.now)
    c.in-Some.ensures.cases.0 c.in-Some-split_first.ensures.cases.0
    (c.have_one_value.ensures.0 c.if-not-have_one_value.false)
    c.loop-a.invariant.0 c.loop-a.invariant.1 c.loop-a.invariant.2
