use Rattle.std.proofs.Common.{sym, subst}
use Rattle.grind_ring_solver.specs.declared.types.RingStep.{RingStep}
use Rattle.grind_ring_solver.specs.Steps.{IsStep}
use Rattle.grind_ring_solver.proofs.EqualLemmas.{after_equal}
use Rattle.grind_ring_solver.proofs.RestLemmas.{joining_irreducible}
use Rattle.grind_ring_solver.proofs.changes.answer.Goals as goal

pub add_form-requires-clause-irreducible : goal.add_form-requires-clause-irreducible
add_form-requires-clause-irreducible c =
    let told = rw c.in-Adds.is at c.in_ok-decision.ensures.decision in
    joining_irreducible c.args.state.now c.in-Adds.rest c.in-Adds.line told.2

pub returns-in_ok-note-in-Equal-clause-ok : goal.returns-in_ok-note-in-Equal-clause-ok
returns-in_ok-note-in-Equal-clause-ok c =
    let told = rw c.in-Equal.is at c.in_ok-decision.ensures.decision in
    subst (λ (step : RingStep). IsStep c.args.state.now c.args.setting.now.terms.now.nodes c.args.setting.now.classes.now.lists c.args.next step c.note.new.state)
    (sym c.equal_step.ensures) (
      told.0,
      told.1,
      told.2,
      told.3,
      after_equal c.args.state.now c.args.setting.now.terms.now.nodes c.args.setting.now.classes.now.lists c.in-Equal.it.left c.in-Equal.it.right c.in-Equal.it.poly
          c.in-Equal.it.rule c.in-Equal.it.from c.args.next c.note.new.state told.3 c.in_ok-note-in-Equal.ensures.ideal c.in_ok-note-in-Equal.ensures.other,
    )
