use Rattle.grind_ring_solver.proofs.StateLemmas.{same_taken, more_taken}
use Rattle.grind_ring_solver.proofs.changes.take_fact.Goals as goal

pub returns-in_err-push-clause-keeps : goal.returns-in_err-push-clause-keeps
returns-in_err-push-clause-keeps c = same_taken c.args.state.now c.requires c.push.new.self c.in_err-push.ensures.err

pub returns-clause-keeps : goal.returns-clause-keeps
returns-clause-keeps c = more_taken c.args.state.now c.requires c.args.it c.push.new.self c.in_ok-push.ensures.ok
