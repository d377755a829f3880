use Rattle.std.proofs.Common.{ap, not}
use Rattle.grind_scenes.proofs.FormulaLemmas.{next_mark}
use Rattle.grind_scenes.proofs.marking.marks_but.Goals as goal

pub loop-n-preserved : goal.loop-n-preserved
loop-n-preserved c =
    next_mark _ c.loop-n.n-counter c.loop-n.marks c.push.new.self _ c.loop-n.invariant (ap not c.contains.ensures.value) c.in_ok-push.ensures.ok
