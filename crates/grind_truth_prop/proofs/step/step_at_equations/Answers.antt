use Rattle.std.specs.Prelude.{refl}
use Rattle.grind_truth_prop.proofs.StepLemmas.{settled_answer, nothing_follows}
use Rattle.grind_truth_prop.proofs.step.step_at_equations.Goals as goal

pub returns-in-Some-first_settled : goal.returns-in-Some-first_settled
returns-in-Some-first_settled c =
    settled_answer c.args.known.now c.args.classes.now.lists c.in-Some-first_settled.it.node c.in-Some-first_settled.it.finding c.in_ok-step.step
    c.requires.before (c.in_default.ensures.none refl) c.in-Some-first_settled.ensures.found c.in_ok-step.ensures

pub returns-in-Some-first_wanted : goal.returns-in-Some-first_wanted
returns-in-Some-first_wanted c = (
  nothing_follows c.args.known.now c.args.classes.now.lists c.requires.before (c.in_default.ensures.none refl) (c.in_default-first_settled.ensures.none refl),
  c.in-Some-first_wanted.ensures.found,
)

pub returns : goal.returns
returns c = record {
  follows = nothing_follows c.args.known.now c.args.classes.now.lists c.requires.before (c.in_default.ensures.none refl) (c.in_default-first_settled.ensures.none refl);
  wanted = c.in-None.ensures.none refl;
}
