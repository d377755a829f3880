use Rattle.std.specs.Prelude.{length, refl}
use Rattle.std.proofs.Common.{arith}
use Rattle.grind_truth_prop.specs.Classed.{IsNotClassed}
use Rattle.grind_truth_prop.proofs.TermLemmas.{below_next}
use Rattle.grind_truth_prop.proofs.UnitLemmas.{none_classed}
use Rattle.grind_truth_prop.proofs.units.classed.first_classed.Goals as goal

pub loop-number-preserved : goal.loop-number-preserved
loop-number-preserved c =
    below_next (IsNotClassed c.args.known.now c.args.classes.now.lists) c.loop-number.number c.loop-number.invariant
    (rw c.new-node.ensures at (c.in_default.ensures.none refl))

pub returns-clause-none : goal.returns-clause-none
returns-clause-none c = λ _.
    none_classed c.args.known.now c.args.classes.now.lists (length c.args.known.now.terms.nodes) refl c.requires
    (λ k less. c.loop-number.invariant k (omega (arith, less)))
