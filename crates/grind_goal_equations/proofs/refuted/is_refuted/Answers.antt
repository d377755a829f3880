use Rattle.std.specs.Prelude.{ℕ, List}
use Rattle.std.proofs.Common.{sym, subst}
use Rattle.grind_classes.specs.Classes.{IsActive}
use Rattle.grind_goal_equations.proofs.refuted.is_refuted.Goals as goal

pub same-requires-clause-first : goal.same-requires-clause-first
same-requires-clause-first c =
    subst (λ (lists : List (List ℕ)). IsActive lists c.args.fact.now.reading.left) (sym c.classes-classes.ensures.value)
    (c.requires.active c.args.fact.now.reading.left c.requires.fact.sorted.left)

pub same-requires-clause-second : goal.same-requires-clause-second
same-requires-clause-second c =
    subst (λ (lists : List (List ℕ)). IsActive lists c.args.fact.now.reading.right) (sym c.classes-classes.ensures.value)
    (c.requires.active c.args.fact.now.reading.right c.requires.fact.sorted.right)
