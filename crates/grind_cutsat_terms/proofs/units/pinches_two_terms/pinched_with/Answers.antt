use Rattle.std.proofs.Common.{ℕ, ◌<◌, Option, length, arith, subst}
use Rattle.std.specs.Prelude.{MatchOption}
use Rattle.grind_cutsat_assignment.specs.Given.{Given, given}
use Rattle.grind_cutsat_units.specs.Pinches.{Pinches}
use Rattle.grind_cutsat_terms.specs.declared.units.pinches_two_terms.Pinch.{Pinch}
use Rattle.grind_cutsat_terms.specs.Pinching.{IsUnpinched}
use Rattle.grind_cutsat_terms.proofs.PinchLemmas.{below_next}
use Rattle.grind_cutsat_terms.proofs.units.pinches_two_terms.pinched_with.Goals as goal

pub loop-number-preserved : goal.loop-number-preserved
loop-number-preserved c =
    let it : Given = given c.args.view.now.facts.now c.args.view.now.terms.now.nodes c.args.view.now.classes.now.lists in
    let none = subst (λ (found : Option Pinch). MatchOption found (IsUnpinched it c.args.left c.new-right.result)
    (λ pinch. Pinches it pinch.left pinch.right pinch.first pinch.second)) c.in_default.is c.in_ok-found.ensures in
    below_next (IsUnpinched it c.args.left) c.loop-number.number c.loop-number.invariant
    (subst (λ (n : ℕ). IsUnpinched it c.args.left n) c.new-right.ensures none)

pub returns : goal.returns
returns c = λ b less. c.loop-number.invariant b (omega (arith, less))
