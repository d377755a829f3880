use Rattle.grind_cutsat_assignment.specs.Given.{given}
use Rattle.grind_cutsat_terms.specs.Pinching.{AreUnpinched}
use Rattle.grind_cutsat_terms.proofs.units.pinches_two_terms.pinched_with.Given as goal

abbrev pub invariant-loop-number : goal.invariant-loop-number
invariant-loop-number l = AreUnpinched (given l.view.facts.now l.view.terms.now.nodes l.view.classes.now.lists) l.left l.number
