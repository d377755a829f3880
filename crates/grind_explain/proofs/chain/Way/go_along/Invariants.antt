use Rattle.std.specs.Prelude.{length}
use Rattle.grind_needed_edges.specs.Needed.{IsAlong}
use Rattle.grind_explain.specs.Deriving.{IsOnWay}
use Rattle.grind_explain.proofs.chain.Way.go_along.Given as goal

abbrev pub invariant-loop-place : goal.invariant-loop-place
invariant-loop-place l =
    IsOnWay (IsAlong l.fn.self.edges.now l.fn.first.left l.fn.first.right l.fn.places) l.fn.self.writer.now.lemmas.now
    l.fn.self.writer.now.goal.now l.fn.proof l.proof l.fn.told l.told l.fn.self.writer.now.branch
    l.fn.self.edges.now l.fn.places l.fn.first.right l.rest l.number l.a l.here

abbrev pub decreases-loop-place : goal.decreases-loop-place
decreases-loop-place l = length l.rest
