use Rattle.std.proofs.Common.{ℕ, ◌<◌, Option, length, arith, subst}
use Rattle.std.specs.Prelude.{MatchOption}
use Rattle.grind_cutsat_assignment.specs.Given.{Given, given}
use Rattle.grind_cutsat_units.specs.Pinches.{Pinches}
use Rattle.grind_cutsat_terms.specs.declared.units.pinches_two_terms.Pinch.{Pinch}
use Rattle.grind_cutsat_terms.specs.Pinching.{AreUnpinched}
use Rattle.grind_cutsat_terms.proofs.PinchLemmas.{below_next, none_pinched}
use Rattle.grind_cutsat_terms.proofs.units.pinches_two_terms.pinches_two_terms.Goals as goal

pub loop-number-preserved : goal.loop-number-preserved
loop-number-preserved c =
    let it : Given = given c.args.view.now.facts.now c.args.view.now.terms.now.nodes c.args.view.now.classes.now.lists in
    let none = subst (λ (found : Option Pinch). MatchOption found (AreUnpinched it c.new-node.result (length it.nodes))
    (λ pinch. Pinches it pinch.left pinch.right pinch.first pinch.second)) c.in_default.is c.in_ok-found.ensures in
    below_next (λ (a : ℕ). AreUnpinched it a (length it.nodes)) c.loop-number.number c.loop-number.invariant
    (subst (λ (n : ℕ). AreUnpinched it n (length it.nodes)) c.new-node.ensures none)

pub returns : goal.returns
returns c =
    none_pinched (given c.args.view.now.facts.now c.args.view.now.terms.now.nodes c.args.view.now.classes.now.lists)
    (λ a less. c.loop-number.invariant a (omega (arith, less)))
