use Rattle.std.specs.Prelude.{length, refl}
use Rattle.std.proofs.Common.{arith}
use Rattle.grind_truth_prop.specs.Splits.{WantsNothing}
use Rattle.grind_truth_prop.proofs.TermLemmas.{below_next}
use Rattle.grind_truth_prop.proofs.UnitLemmas.{none_wanted}
use Rattle.grind_truth_prop.proofs.units.splits.first_wanted.Goals as goal

pub loop-number-preserved : goal.loop-number-preserved
loop-number-preserved c =
    below_next (WantsNothing c.args.known.now c.args.classes.now.lists) c.loop-number.number c.loop-number.invariant
    (rw c.new-node.ensures at (c.in_default.ensures.none refl))

pub returns-clause-none : goal.returns-clause-none
returns-clause-none c = λ _.
    none_wanted c.args.known.now c.args.classes.now.lists (length c.args.known.now.terms.nodes) refl c.requires.fits
    (λ k less. c.loop-number.invariant k (omega (arith, less)))

pub returns-in-Some-clause-found : goal.returns-in-Some-clause-found
returns-in-Some-clause-found c =
    (c.loop-number.number, rw c.new-node.ensures at c.in-Some.ensures.found, c.loop-number.invariant)
