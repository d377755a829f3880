use Rattle.std.proofs.Common.{ap}
use Rattle.grind_board_state.proofs.BeginLemmas.{begun_board}
use Rattle.grind_board_state.proofs.state.BoardState.new.Goals as goal

pub invariant_of-result : goal.invariant_of-result
invariant_of-result c =
    begun_board c.args.terms.nodes c.in_ok-begun.begun c.in_ok-known.known c.new.result c.in_ok-begun.ensures
    (ap (λ t. t.nodes) c.in_ok-known.ensures.terms) c.in_ok-known.ensures.known c.new.ensures
