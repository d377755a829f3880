use Rattle.std.proofs.Common.{rules, ◌≡◌, None, sym, ◌∙◌}
use Rattle.grind_proof_kernel.specs.Typing.{parent_of}
use Rattle.grind_proof_kernel.proofs.Ancestors.{none_reaches}
use Rattle.grind_proof_kernel.proofs.branches.reaches.Goals as goal

pub returns-in_default : goal.returns-in_default
returns-in_default c =
    let none : parent_of c.args.branches.now c.loop-step.at ≡ None = sym c.parent_of.ensures ∙ c.in_default.is in
    (λ yes. search rules, λ found. absurd (none_reaches c.args.branches.now c.args.branch c.loop-step._step c.loop-step.at c.args.above c.loop-step.invariant.here none c.if-at-above.false c.loop-step.invariant.below found))
