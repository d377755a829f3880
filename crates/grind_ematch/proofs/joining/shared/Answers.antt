use Rattle.grind_ematch.specs.Buckets.{HaveRoots}
use Rattle.grind_ematch.proofs.BucketLemmas.{have_next}
use Rattle.grind_ematch.proofs.joining.shared.Goals as goal
use Rattle.grind_ematch.proofs.joining.shared.Goals.{then-have_roots+then-have_roots-2+in_ok-push, else-have_roots}
use Rattle.std.proofs.Common.{List, ℕ, sym, subst}

pub loop-variable-preserved : goal.loop-variable-preserved
loop-variable-preserved c = elim c.if-have_roots.branch [
  | then-have_roots+then-have_roots-2+in_ok-push w ↦ subst (λ (vs : List ℕ). HaveRoots c.args.left.now vs × HaveRoots c.args.right.now vs) (sym w.found-is) (
    have_next c.args.left.now c.loop-variable.found w.push.new.self c.loop-variable.variable
        (c.have_roots.ensures w.if-have_roots.true) w.in_ok-push.ensures.ok c.loop-variable.invariant.0,
    have_next c.args.right.now c.loop-variable.found w.push.new.self c.loop-variable.variable
        (w.have_roots-then-have_roots.ensures w.if-have_roots-2.true) w.in_ok-push.ensures.ok c.loop-variable.invariant.1,
  )
  | else-have_roots w ↦ subst (λ (vs : List ℕ). HaveRoots c.args.left.now vs × HaveRoots c.args.right.now vs) (sym w.found-is)
      c.loop-variable.invariant
]
