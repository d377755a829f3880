use Rattle.std.specs.Prelude.{ℕ, ◌<◌}
use Rattle.grind_congruence.specs.Searching.{IsPair}
use Rattle.grind_congruence.proofs.search.partner.Given as goal

abbrev pub invariant-loop-number : goal.invariant-loop-number
invariant-loop-number l = (b : ℕ) → b < l.number → ¬ IsPair l.classes.lists l.terms.nodes l.a b
