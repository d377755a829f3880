use Rattle.std.proofs.Common.{arith}
use Rattle.grind_board_state.specs.declared.beginning.Begun.{Begun}
use Rattle.grind_board_state.proofs.BeginLemmas.{args_active, one_more_below}
use Rattle.grind_board_state.proofs.beginning.activate_next.Goals as goal

pub activate-requires-clause-new : goal.activate-requires-clause-new
activate-requires-clause-new c = λ active. let low = (c.requires.below.active c.args.n).0 active in absurd (omega (arith, low))

pub activate-requires-clause-args : goal.activate-requires-clause-args
activate-requires-clause-args c =
    args_active c.args.terms.now.nodes c.args.begun.now c.args.n c.node-node.result.now c.requires.below c.node-node.ensures.value
    c.node-node.ensures.lower

pub returns : goal.returns
returns c =
    let new : Begun = record { closure = c.activate.new.self; active = c.push.new.self } in
    one_more_below c.args.terms.now.nodes c.args.begun.now new c.args.n c.requires.below c.in_ok-activate.ensures.fits
    c.in_ok-activate.ensures.active c.in_ok-activate.ensures.together c.in_ok-activate.ensures.edges c.in_ok-push.ensures.ok
