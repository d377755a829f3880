use Rattle.grind_cutsat_bounds.specs.Evaluations.{value_of}
use Rattle.grind_cutsat_bounds.proofs.ChoiceLemmas.{choice_within}
use Rattle.grind_cutsat_bounds.proofs.choice.choose.Goals as goal

pub returns-in-Within : goal.returns-in-Within
returns-in-Within c =
    choice_within (value_of c.args.values.now) c.args.x c.args.facts.now c.in-Within.limits c.chosen.result c.in-Within.ensures
    c.chosen.ensures
