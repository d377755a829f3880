use Rattle.std.proofs.Common.{◌++◌, ◌∷◌, [], ap, ◌∙◌}
use Rattle.grind_ring_basis.specs.declared.types.Fact.{Fact}
use Rattle.grind_ring_solver.proofs.StateLemmas.{same_own, cut_again, added_keeps}
use Rattle.grind_ring_solver.proofs.changes.add.Goals as goal

pub returns-in_err-push-clause-keeps : goal.returns-in_err-push-clause-keeps
returns-in_err-push-clause-keeps c = same_own c.args.state.now c.requires.state c.push.new.self c.in_err-push.ensures.err

pub returns-in_default-clause-keeps : goal.returns-in_default-clause-keeps
returns-in_default-clause-keeps c =
    cut_again c.args.state.now c.requires.state c.push.new.self c.truncate.new.self c.join_basis-joined.new.basis c.args.known
    c.len-count.result c.len-count.ensures.value c.in_ok-push.ensures.ok c.truncate.ensures c.in_default.ensures.err

pub returns-clause-keeps : goal.returns-clause-keeps
returns-clause-keeps c =
    added_keeps c.args.state.now c.args.it c.push.new.self c.join_basis-joined.new.basis c.one_more-state.result
    (c.in_ok-push.ensures.ok ∙ ap (λ (it : Fact). c.args.state.now.own ++ it ∷ []) c.requires.same) c.in-Ok.ensures.ok
    c.one_more-state.ensures c.requires.state c.requires.nonzero c.terms-terms.ensures.keeps c.requires.fits c.requires.irreducible
    c.requires.free
