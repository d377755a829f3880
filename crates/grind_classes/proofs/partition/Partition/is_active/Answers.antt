use Rattle.std.specs.Prelude.{◌≡◌}
use Rattle.grind_classes.specs.Roots.{root_at}
use Rattle.grind_classes.proofs.ClassLemmas.{active_by_root}
use Rattle.grind_classes.proofs.partition.Partition.is_active.Goals as goal

pub returns-clause-value : goal.returns-clause-value
returns-clause-value c =
    let found : c.root_of.result ≡ root_at c.self.inside.roots c.args.n = rw (← c.as_slice.ensures.value) c.root_of.ensures in
    rw (c.is_some.ensures, ← c.self.view_is) (active_by_root c.self.inside.lists c.self.inside.roots c.args.n c.root_of.result c.self.invariant found)
