use Rattle.std.specs.Prelude.{ℕ, ◌≡◌, ◌+◌, length}
use Rattle.std.proofs.Common.{arith, ap, ◌∙◌, subst}
use Rattle.grind_schemes.specs.Goals.{GoalData}
use Rattle.grind_given_lines.specs.Written.{AreWritten}
use Rattle.grind_given_lines.proofs.reasons.write_all.Goals as goal

pub write_source-requires-2-clause-written : goal.write_source-requires-2-clause-written
write_source-requires-2-clause-written c =
    let last : c.loop-k.k ≡ c.len-count.result = omega (arith, c.loop-k.auto.k-end, c.loop-k-test.false) in
    subst (λ (k : ℕ). AreWritten c.args.writer.now.goal.now c.loop-k.proof c.loop-k.whys k) last c.loop-k.invariant.written

pub returns-clause-written : goal.returns-clause-written
returns-clause-written c =
    let count : c.len-count.result ≡ length c.args.writer.now.goal.now.hyps =
    c.len-count.ensures.value ∙ ap (λ (g : GoalData). length g.hyps) c.goal.view_is in
    subst (λ (k : ℕ). AreWritten c.args.writer.now.goal.now c.write_source-2.new.proof c.write_source-2.new.whys (k + 1)) count
    c.in_ok-write_source-2.ensures.written
