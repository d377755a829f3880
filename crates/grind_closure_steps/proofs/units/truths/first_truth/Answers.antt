use Rattle.std.specs.Prelude.{refl}
use Rattle.std.proofs.Common.{arith}
use Rattle.grind_closure_steps.specs.Truths.{HasNothingLeft}
use Rattle.grind_closure_steps.proofs.StepLemmas.{below_next, nothing_left}
use Rattle.grind_closure_steps.proofs.units.truths.first_truth.Goals as goal

pub loop-number-preserved : goal.loop-number-preserved
loop-number-preserved c =
    below_next (HasNothingLeft c.args.known.now c.args.classes.now.lists) c.loop-number.number c.loop-number.invariant
    (rw c.new-node.ensures at (c.in_default.ensures.none refl))

pub returns-clause-none : goal.returns-clause-none
returns-clause-none c = λ _.
    nothing_left c.args.known.now c.args.classes.now.lists c.requires
    (λ k less. c.loop-number.invariant k (omega (arith, less)))
