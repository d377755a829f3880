use Rattle.std.specs.Prelude.{List, All}
use Rattle.std.proofs.Common.{subst}
use Rattle.grind_class_joins.specs.declared.joins.Pair.{Pair}
use Rattle.grind_class_joins.specs.Joins.{IsActivePair}
use Rattle.grind_class_rows.proofs.class_tests.merged_all.Goals as goal

pub merge_all-requires : goal.merge_all-requires
merge_all-requires c =
    subst (λ (ps : List Pair). All (IsActivePair c.in_ok-classes.classes.lists) ps) c.as_slice.ensures.value
    (c.are_active.ensures c.if-not-are_active.false)
