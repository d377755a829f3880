use Rattle.grind_classes.proofs.TrailLemmas.{IsUndoable-mark}
use Rattle.grind_classes.proofs.classes.ClassesUndo.mark.Goals as goal

pub invariant_of-self-2 : goal.invariant_of-self-2
invariant_of-self-2 c =
    rw c.in_ok-push.ensures.ok
    (IsUndoable-mark c.self.inside.parts c.self.inside.trail c.self.inside.marks c.len.result c.len.ensures.value c.self.invariant)
