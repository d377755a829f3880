use Rattle.grind_ring_solver.proofs.StateLemmas.{same_own, more_own}
use Rattle.grind_ring_solver.proofs.changes.know.Goals as goal

pub returns-in_err-push-clause-keeps : goal.returns-in_err-push-clause-keeps
returns-in_err-push-clause-keeps c = same_own c.args.state.now c.requires.state c.push.new.self c.in_err-push.ensures.err

pub returns-clause-keeps : goal.returns-clause-keeps
returns-clause-keeps c =
    more_own c.args.state.now c.requires.state c.args.it c.push.new.self c.in_ok-push.ensures.ok (record {
      poly = c.terms-terms.ensures.keeps;
      zero = c.requires.zero;
    })
