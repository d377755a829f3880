use Rattle.grind_explain.specs.Deriving.{AreKnownSoFar}
use Rattle.grind_explain.proofs.known.Course.tell_needed.Given as goal

abbrev pub invariant-loop-place : goal.invariant-loop-place
invariant-loop-place l =
    AreKnownSoFar l.fn.self.writer.now.lemmas.now l.fn.self.writer.now.goal.now l.fn.proof l.proof l.fn.told l.told l.fn.self.writer.now.branch
    l.fn.self.closure.now l.fn.self.whys.now l.fn.self.plan.now l.place
