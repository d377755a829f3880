use Rattle.grind_scenes.proofs.FormulaLemmas.{next_mark}
use Rattle.grind_scenes.proofs.marking.marks_of.Goals as goal

pub loop-n-preserved : goal.loop-n-preserved
loop-n-preserved c =
    next_mark _ c.loop-n.n-counter c.loop-n.marks c.push.new.self _ c.loop-n.invariant c.contains.ensures.value c.in_ok-push.ensures.ok
