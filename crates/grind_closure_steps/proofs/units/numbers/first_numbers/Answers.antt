use Rattle.std.specs.Prelude.{refl}
use Rattle.std.proofs.Common.{arith}
use Rattle.grind_closure_steps.specs.Clashes.{IsAlone}
use Rattle.grind_closure_steps.proofs.StepLemmas.{below_next, no_numbers}
use Rattle.grind_closure_steps.proofs.units.numbers.first_numbers.Goals as goal

pub loop-number-preserved : goal.loop-number-preserved
loop-number-preserved c =
    below_next (IsAlone c.args.known.now.terms.nodes c.args.classes.now.lists) c.loop-number.number c.loop-number.invariant
    (rw c.new-left.ensures at (c.in_default.ensures.none refl))

pub returns-clause-none : goal.returns-clause-none
returns-clause-none c = λ _.
    no_numbers c.args.known.now.terms.nodes c.args.classes.now.lists
    (λ k less. c.loop-number.invariant k (omega (arith, less)))
