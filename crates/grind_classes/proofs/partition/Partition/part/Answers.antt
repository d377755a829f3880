use Rattle.grind_classes.specs.Trail.{WasJoined}
use Rattle.grind_classes.proofs.UndoneLemmas.{moved_within, AreTied-parted}
use Rattle.grind_classes.proofs.partition.Partition.part.Goals as goal

pub repoint-requires : goal.repoint-requires
repoint-requires c =
    let was : WasJoined c.args.kept c.args.gone c.args.moved c.self.inside.lists = rw c.self.view_is c.requires in
    rw c.as_slice.ensures.value (moved_within c.self.inside.lists c.self.inside.roots c.args.kept c.args.gone c.args.moved c.self.invariant was)

pub invariant_of-self : goal.invariant_of-self
invariant_of-self c =
    let was : WasJoined c.args.kept c.args.gone c.args.moved c.self.inside.lists = rw c.self.view_is c.requires in
    rw (c.put_apart.ensures, c.repoint.ensures, c.as_slice.ensures.value)
    (AreTied-parted c.self.inside.lists c.self.inside.roots c.args.kept c.args.gone c.args.moved c.self.invariant was)
