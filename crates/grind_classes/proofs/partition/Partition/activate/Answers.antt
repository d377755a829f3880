use Rattle.std.specs.Prelude.{◌≡◌, ◌∷◌, [], Some, set}
use Rattle.grind_classes.specs.Classes.{IsActive, with_class}
use Rattle.grind_classes.proofs.ClassLemmas.{AreTied-longer, IsPartition-with_class, AreTied-with_class}
use Rattle.grind_classes.proofs.partition.Partition.activate.Goals as goal

pub invariant_of-self : goal.invariant_of-self
invariant_of-self c = AreTied-longer c.self.inside.lists c.self.inside.roots c.reach.new.roots c.self.invariant c.reach.ensures.same

pub invariant_of-self-in_err-make_room : goal.invariant_of-self-in_err-make_room
invariant_of-self-in_err-make_room c =
    rw c.in_err-make_room.ensures.err
    (AreTied-longer c.self.inside.lists c.self.inside.roots c.reach.new.roots c.self.invariant c.reach.ensures.same)

new : (c : goal.After-set-2) → IsActive c.self.inside.lists c.args.n → ⊥
new c = rw c.self.view_is c.requires

lists_are : (c : goal.After-set-2) → c.set.new.self ≡ with_class c.self.inside.lists c.args.n
lists_are c =
    let own : c.push.new.self ≡ c.args.n ∷ [] = rw c.new-own.ensures at c.in_ok-push.ensures.ok in
    rw (c.number.ensures, c.in_ok-make_room.ensures.ok, own) at c.set.ensures

pub invariant_of-self-2 : goal.invariant_of-self-2
invariant_of-self-2 c =
    let roots_are : c.set-2.new.self ≡ set c.reach.new.roots c.args.n (Some c.args.n) = rw c.number-2.ensures at c.set-2.ensures in
    rw (lists_are c, roots_are)
    (AreTied-with_class c.self.inside.lists c.self.inside.roots c.reach.new.roots c.args.n c.self.invariant (new c)
    c.reach.ensures.same c.in_ok-reach.ensures.ok)

pub returns-clause-partition : goal.returns-clause-partition
returns-clause-partition c =
    rw (lists_are c) (IsPartition-with_class c.self.inside.lists c.args.n c.self.invariant.partition (new c))
