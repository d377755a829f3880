use Rattle.grind_ring_solver.proofs.AgendaLemmas.{agenda_after}
use Rattle.grind_ring_solver.proofs.ring.Ring.step.Goals as goal

pub invariant_of-self-2 : goal.invariant_of-self-2
invariant_of-self-2 c = (
  c.in_ok-step.ensures.keeps,
  agenda_after c.self.inside.state c.answer.new.state c.answer.new.agenda c.in_ok-step.ensures.agenda c.args.terms.now.nodes
      c.args.classes.now.lists c.args.next c.in_ok-step.step c.self.invariant.0 c.in_ok-step.ensures.ok,
)
