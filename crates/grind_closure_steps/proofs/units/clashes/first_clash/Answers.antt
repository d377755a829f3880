use Rattle.std.proofs.Common.{sym, ◌∙◌, refl}
use Rattle.std.proofs.lemmas.Bool.{false≢true}
use Rattle.grind_closure_steps.proofs.units.clashes.first_clash.Goals as goal

pub returns-in-None-clause-none : goal.returns-in-None-clause-none
returns-in-None-clause-none c = λ _. record {
  truths = λ together. false≢true (sym c.if-are_together.false ∙ c.are_together.ensures.1 together);
  numbers = c.in_default.ensures.none refl;
  apart = c.in_default-first_apart.ensures.none refl;
  opposed = c.in-None.ensures.none refl;
}
