use Rattle.std.specs.Prelude.{nat_eq}
use Rattle.std.specs.List.{list_any}
use Rattle.grind_scenes.specs.Formulas.{AreMarks}
use Rattle.grind_scenes.proofs.marking.marks_of.Given as goal

abbrev pub invariant-loop-n : goal.invariant-loop-n
invariant-loop-n l = AreMarks (λ n. list_any (λ k. nat_eq k n) l.listed) l.n-counter l.marks
