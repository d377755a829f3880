use Rattle.std.specs.Prelude.{◌≡◌}
use Rattle.std.proofs.Common.{◌∙◌}
use Rattle.grind_classes.specs.Classes.{members_of}
use Rattle.grind_classes.specs.Roots.{repointed}
use Rattle.grind_classes.specs.Trail.{AreJoinable}
use Rattle.grind_classes.proofs.MergeLemmas.{AreTied-joined, members_have_roots}
use Rattle.grind_classes.proofs.partition.Partition.append.Goals as goal

pub repoint-requires : goal.repoint-requires
repoint-requires c =
    let nodes_are : c.as_slice.result.now ≡ members_of c.self.inside.lists c.args.gone = c.as_slice.ensures.value ∙ c.in_ok-moved.ensures.moved in
    rw nodes_are (members_have_roots c.self.inside.lists c.self.inside.roots c.args.gone c.self.invariant)

can : (c : goal.After-repoint) → AreJoinable c.self.inside.lists c.args.kept c.args.gone
can c = record {
  classes = c.self.invariant.partition;
  kept_in = rw c.self.view_is c.requires.kept;
  gone_in = rw c.self.view_is c.requires.gone;
  differ = c.requires.apart;
}

pub invariant_of-self-2 : goal.invariant_of-self-2
invariant_of-self-2 c =
    let nodes_are : c.as_slice.result.now ≡ members_of c.self.inside.lists c.args.gone = c.as_slice.ensures.value ∙ c.in_ok-moved.ensures.moved in
    let roots_are : c.repoint.new.roots ≡ repointed c.self.inside.roots (members_of c.self.inside.lists c.args.gone) c.args.kept =
    rw nodes_are at c.repoint.ensures in
    rw (c.in_ok-moved.ensures.ok, roots_are)
    (AreTied-joined c.self.inside.lists c.self.inside.roots c.args.kept c.args.gone c.self.invariant (can c))
