use Rattle.std.specs.Prelude.{ℕ, ◌<◌, length}
use Rattle.grind_cutsat_assignment.specs.Given.{given}
use Rattle.grind_cutsat_terms.specs.Pinching.{AreUnpinched}
use Rattle.grind_cutsat_terms.proofs.units.pinches_two_terms.pinches_two_terms.Given as goal

abbrev pub invariant-loop-number : goal.invariant-loop-number
invariant-loop-number l = (a : ℕ) → a < l.number
    → AreUnpinched (given l.view.facts.now l.view.terms.now.nodes l.view.classes.now.lists) a (length l.view.terms.now.nodes)
