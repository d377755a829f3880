use Rattle.std.specs.Prelude.{length}
use Rattle.grind_explain.specs.Deriving.{AreHalfTold}
use Rattle.grind_explain.proofs.known.Course.lines_of_args.Given as goal

abbrev pub invariant-loop-a : goal.invariant-loop-a
invariant-loop-a l =
    AreHalfTold l.fn.self.writer.now.lemmas.now l.fn.self.writer.now.goal.now l.fn.proof l.proof l.fn.told l.told l.fn.self.writer.now.branch
    l.fn.self.closure.now l.fn.self.whys.now l.fn.self.plan.now l.fn.lefts l.fn.rights l.left l.right l.numbers

abbrev pub decreases-loop-a : goal.decreases-loop-a
decreases-loop-a l = length l.left
