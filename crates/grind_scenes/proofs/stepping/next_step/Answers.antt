use Rattle.grind_scenes.proofs.FormulaLemmas.{formulas_fit}
use Rattle.grind_scenes.proofs.stepping.next_step.Goals as goal

pub truth_step-requires : goal.truth_step-requires
truth_step-requires c =
    formulas_fit c.args.known.now c.args.classes.now.lists c.requires.classes
    (c.len-count.ensures.table, c.len-count.ensures.begins, c.len-count.ensures.bound, c.len-count.ensures.limit)
    c.requires.marked
