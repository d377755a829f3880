use Rattle.std.specs.Prelude.{◌≤◌, ◌<◌, length}
use Rattle.std.proofs.Common.{arith}
use Rattle.grind_classes.specs.Classes.{members_of}
use Rattle.grind_congruence.proofs.AgendaLemmas.{moved_first, moved_second}
use Rattle.grind_congruence.proofs.joining.moved_by.Goals as goal

pub returns-then-right-left : goal.returns-then-right-left
returns-then-right-left c =
    let order : length (members_of c.args.classes.now.lists c.root-2.result) ≤ length (members_of c.args.classes.now.lists c.root.result) =
    rw (← c.members-right.ensures.value, ← c.members-left.ensures.value) (omega (arith, c.if-right-left.true)) in
    moved_second c.args.classes.now.lists c.args.a c.args.b c.root.result c.root-2.result c.members-right.result.now c.root.ensures.partition
    c.root.ensures.within c.root-2.ensures.within order c.members-right.ensures.value

pub returns : goal.returns
returns c =
    let less : length (members_of c.args.classes.now.lists c.root.result) < length (members_of c.args.classes.now.lists c.root-2.result) =
    rw (← c.members-right.ensures.value, ← c.members-left.ensures.value) (omega (arith, c.if-right-left.false)) in
    moved_first c.args.classes.now.lists c.args.a c.args.b c.root.result c.root-2.result c.members-left.result.now c.root.ensures.partition
    c.root.ensures.within c.root-2.ensures.within less c.members-left.ensures.value
