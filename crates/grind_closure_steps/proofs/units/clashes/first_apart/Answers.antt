use Rattle.std.proofs.Common.{arith, sym, ◌∙◌}
use Rattle.std.proofs.lemmas.Bool.{false≢true}
use Rattle.grind_closure_steps.specs.Clashes.{AreApartTogether}
use Rattle.grind_closure_steps.proofs.StepLemmas.{below_next, none_apart}
use Rattle.grind_closure_steps.proofs.units.clashes.first_apart.Goals as goal

pub loop-place-preserved : goal.loop-place-preserved
loop-place-preserved c =
    below_next (λ k. AreApartTogether c.args.known.now c.args.classes.now.lists k → ⊥) c.loop-place.place c.loop-place.invariant
    (λ h. false≢true (sym c.if-are_apart_together.false ∙ c.are_apart_together.ensures.1 h))

pub returns-clause-none : goal.returns-clause-none
returns-clause-none c = λ _.
    none_apart c.args.known.now c.args.classes.now.lists (λ k less. c.loop-place.invariant k (omega (arith, less)))
