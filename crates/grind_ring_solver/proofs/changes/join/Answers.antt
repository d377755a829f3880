use Rattle.grind_ring_solver.proofs.StateLemmas.{same_basis, more_basis}
use Rattle.grind_ring_solver.proofs.changes.join.Goals as goal

pub returns-in_err-join_basis-clause-keeps : goal.returns-in_err-join_basis-clause-keeps
returns-in_err-join_basis-clause-keeps c =
    same_basis c.args.state.now c.requires.state c.join_basis.new.basis c.in_err-join_basis.ensures.err

pub returns-clause-keeps : goal.returns-clause-keeps
returns-clause-keeps c =
    more_basis c.args.state.now c.requires.state c.args.it c.join_basis.new.basis c.in_ok-join_basis.ensures.ok c.requires.nonzero
    c.terms-terms.ensures.keeps c.requires.known
