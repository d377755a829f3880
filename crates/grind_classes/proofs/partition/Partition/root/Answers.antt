use Rattle.std.specs.Prelude.{◌≡◌}
use Rattle.std.proofs.Common.{◌∙◌, sym}
use Rattle.grind_classes.specs.Classes.{IsIn, IsActive}
use Rattle.grind_classes.specs.Roots.{root_at}
use Rattle.grind_classes.proofs.ClassLemmas.{root_in, root_of_active, together_by_root}
use Rattle.grind_classes.proofs.partition.Partition.root.Goals as goal

within : (c : goal.In-Some) → IsIn c.self.inside.lists c.in-Some.root c.args.n
within c =
    let found : c.root_of.result ≡ root_at c.self.inside.roots c.args.n = rw (← c.as_slice.ensures.value) c.root_of.ensures in
    (c.self.invariant.rooted c.args.n c.in-Some.root).0 (sym found ∙ c.in-Some.is)

pub returns-in-Some-clause-within : goal.returns-in-Some-clause-within
returns-in-Some-clause-within c = rw (← c.self.view_is) (within c)

pub returns-in-Some-clause-own : goal.returns-in-Some-clause-own
returns-in-Some-clause-own c =
    rw (← c.self.view_is) (root_in c.self.inside.lists c.in-Some.root c.args.n c.self.invariant.partition (within c))

pub returns-in-Some-clause-together : goal.returns-in-Some-clause-together
returns-in-Some-clause-together c =
    rw (← c.self.view_is) (together_by_root c.self.inside.lists c.in-Some.root c.args.n c.self.invariant.partition (within c))

none : (c : goal.In-None) → ⊥
none c =
    let found : c.root_of.result ≡ root_at c.self.inside.roots c.args.n = rw (← c.as_slice.ensures.value) c.root_of.ensures in
    let active : IsActive c.self.inside.lists c.args.n = rw c.self.view_is c.requires in
    root_of_active c.self.inside.lists c.self.inside.roots c.args.n c.self.invariant active (sym c.in-None.is ∙ found)

pub returns-in-None-clause-within : goal.returns-in-None-clause-within
returns-in-None-clause-within c = absurd (none c)

pub returns-in-None-clause-own : goal.returns-in-None-clause-own
returns-in-None-clause-own c = absurd (none c)

pub returns-in-None-clause-together : goal.returns-in-None-clause-together
returns-in-None-clause-together c = absurd (none c)
