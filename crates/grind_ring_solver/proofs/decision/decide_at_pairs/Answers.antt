use Rattle.std.proofs.Common.{length}
use Rattle.grind_ring_solver.proofs.BlockLemmas.{joining_form, blocked}
use Rattle.grind_ring_solver.proofs.decision.decide_at_pairs.Goals as goal

pub returns-in-Form-clause-decision : goal.returns-in-Form-clause-decision
returns-in-Form-clause-decision c =
    let found = rw c.in-Form.is at c.in_ok-scan.ensures.scan in (
      c.requires.zeroed,
      found.0,
      joining_form c.args.state.now c.args.posts (length c.args.state.now.basis.elements) c.in-Form.rest c.in-Form.line c.requires.posts found,
    )

pub decide_at_terms-requires-clause-blocked : goal.decide_at_terms-requires-clause-blocked
decide_at_terms-requires-clause-blocked c =
    blocked c.args.state.now c.args.posts c.in-Nothing.pairs c.both_of-marks.result c.requires.posts
    (rw c.in-Nothing.is at c.in_ok-scan.ensures.scan) c.both_of-marks.ensures
