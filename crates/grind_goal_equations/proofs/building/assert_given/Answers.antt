use Rattle.std.specs.Prelude.{ℕ, List}
use Rattle.std.proofs.Common.{sym, subst}
use Rattle.grind_classes.specs.Classes.{IsActive}
use Rattle.grind_goal_equations.proofs.building.assert_given.Goals as goal

pub same-requires-clause-first : goal.same-requires-clause-first
same-requires-clause-first c =
    subst (λ (lists : List (List ℕ)). IsActive lists c.args.edge.now.left) (sym c.classes.ensures.value)
    (c.requires.built.active c.args.edge.now.left c.requires.ends.0)

pub same-requires-clause-second : goal.same-requires-clause-second
same-requires-clause-second c =
    subst (λ (lists : List (List ℕ)). IsActive lists c.args.edge.now.right) (sym c.classes.ensures.value)
    (c.requires.built.active c.args.edge.now.right c.requires.ends.1)
