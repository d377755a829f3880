use Rattle.std.specs.Prelude.{length, refl}
use Rattle.std.proofs.Common.{arith}
use Rattle.grind_truth_prop.specs.Connectives.{SettlesNothing}
use Rattle.grind_truth_prop.proofs.TermLemmas.{below_next}
use Rattle.grind_truth_prop.proofs.UnitLemmas.{none_settled}
use Rattle.grind_truth_prop.proofs.units.connectives.first_settled.Goals as goal

pub loop-number-preserved : goal.loop-number-preserved
loop-number-preserved c =
    below_next (SettlesNothing c.args.known.now c.args.classes.now.lists) c.loop-number.number c.loop-number.invariant
    (rw c.new-node.ensures at (c.in_default.ensures.none refl))

pub returns-clause-none : goal.returns-clause-none
returns-clause-none c = λ _.
    none_settled c.args.known.now c.args.classes.now.lists (length c.args.known.now.terms.nodes) refl c.requires
    (λ k less. c.loop-number.invariant k (omega (arith, less)))
