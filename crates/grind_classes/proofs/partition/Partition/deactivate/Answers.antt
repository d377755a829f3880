use Rattle.grind_classes.specs.Trail.{WasAlone}
use Rattle.grind_classes.proofs.UndoneLemmas.{alone_within, AreTied-deactivated}
use Rattle.grind_classes.proofs.partition.Partition.deactivate.Goals as goal

pub set-requires-2 : goal.set-requires-2
set-requires-2 c =
    let was : WasAlone c.args.node c.args.len c.args.blank c.self.inside.lists = rw c.self.view_is c.requires in
    rw c.number-2.ensures (alone_within c.self.inside.lists c.self.inside.roots c.args.node c.args.len c.args.blank c.self.invariant was).1

pub invariant_of-self : goal.invariant_of-self
invariant_of-self c =
    let was : WasAlone c.args.node c.args.len c.args.blank c.self.inside.lists = rw c.self.view_is c.requires in
    rw (c.truncate.ensures, c.set.ensures, c.set-2.ensures, c.number.ensures, c.number-2.ensures)
    (AreTied-deactivated c.self.inside.lists c.self.inside.roots c.args.node c.args.len c.args.blank c.self.invariant was)
