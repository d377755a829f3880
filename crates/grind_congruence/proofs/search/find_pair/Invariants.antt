use Rattle.std.specs.Prelude.{ℕ, ◌<◌}
use Rattle.grind_congruence.specs.Searching.{HasNoPartner}
use Rattle.grind_congruence.proofs.search.find_pair.Given as goal

abbrev pub invariant-loop-number : goal.invariant-loop-number
invariant-loop-number l = (a : ℕ) → a < l.number → HasNoPartner l.classes.lists l.terms.nodes a
