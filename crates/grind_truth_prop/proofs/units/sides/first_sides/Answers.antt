use Rattle.std.specs.Prelude.{length, refl}
use Rattle.std.proofs.Common.{arith}
use Rattle.grind_truth_prop.specs.Sides.{HasNoSides}
use Rattle.grind_truth_prop.proofs.TermLemmas.{below_next}
use Rattle.grind_truth_prop.proofs.UnitLemmas.{no_sides}
use Rattle.grind_truth_prop.proofs.units.sides.first_sides.Goals as goal

pub loop-number-preserved : goal.loop-number-preserved
loop-number-preserved c =
    below_next (HasNoSides c.args.known.now c.args.classes.now.lists) c.loop-number.number c.loop-number.invariant
    (rw c.new-node.ensures at (c.if-has_sides.ensures.no refl))

pub returns-clause-none : goal.returns-clause-none
returns-clause-none c = λ _.
    no_sides c.args.known.now c.args.classes.now.lists (length c.args.known.now.terms.nodes) refl c.requires.fits
    (λ k less. c.loop-number.invariant k (omega (arith, less)))
