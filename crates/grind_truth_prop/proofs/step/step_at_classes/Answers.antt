use Rattle.std.specs.Prelude.{refl}
use Rattle.grind_truth_prop.proofs.step.step_at_classes.Goals as goal

pub returns-in-Some-first_sides : goal.returns-in-Some-first_sides
returns-in-Some-first_sides c = (c.in_default.ensures.none refl, c.in-Some-first_sides.ensures.found)

pub step_at_equations-requires-clause-before : goal.step_at_equations-requires-clause-before
step_at_equations-requires-clause-before c =
    record { classed = c.in_default.ensures.none refl; sides = c.in_default-first_sides.ensures.none refl }
