use Rattle.std.specs.Prelude.{◌≡◌, ◌↔◌, ◌<◌, All, length, map}
use Rattle.grind_value_tables.specs.Overflows.{value_of}
use Rattle.grind_value_tables.proofs.functions.have_equal_values.Given as goal

abbrev pub invariant-loop-a : goal.invariant-loop-a
invariant-loop-a l =
    All (λ arg. arg < length l.list) l.rest
    × All (λ arg. arg < length l.list) l.others
    × ((map (value_of l.list) l.rest ≡ map (value_of l.list) l.others)
    ↔ (map (value_of l.list) l.left ≡ map (value_of l.list) l.right))

abbrev pub decreases-loop-a : goal.decreases-loop-a
decreases-loop-a l = length l.rest
