use Rattle.std.proofs.Common.{subst}
use Rattle.grind_truth_prop.specs.Given.{Fits}
use Rattle.grind_board_state.specs.States.{BoardData}
use Rattle.grind_board_state.proofs.StateLemmas.{board_fits}
use Rattle.grind_board_state.proofs.state.BoardState.known.Goals as goal

pub returns-clause-fits : goal.returns-clause-fits
returns-clause-fits c =
    let it : BoardData = record {
      known = c.self.inside.known;
      closure = c.self.inside.closure;
      posts = c.self.inside.journal;
      active = c.self.inside.active;
      cursors = c.self.inside.cursors;
    } in
    subst (λ (b : BoardData). Fits b.known b.closure.lists) c.self.view_is (board_fits it c.self.invariant)
