use Rattle.std.specs.Prelude.{◌<◌, length}
use Rattle.std.proofs.Common.{sym, subst, refl}
use Rattle.grind_board_state.specs.Agents.{cursor_of}
use Rattle.grind_board_state.specs.States.{BoardData, IsRead}
use Rattle.grind_board_state.proofs.StateLemmas.{at_place, reads_nothing}
use Rattle.grind_board_state.proofs.state.BoardState.pass.Goals as goal

pub returns : goal.returns
returns c =
    let it : BoardData = record {
      known = c.self.inside.known;
      closure = c.self.inside.closure;
      posts = c.self.inside.journal;
      active = c.self.inside.active;
      cursors = c.self.inside.cursors;
    } in
    let within : cursor_of c.args.agent it.cursors < length it.posts =
    subst (λ (b : BoardData). cursor_of c.args.agent b.cursors < length b.posts) (sym c.self.view_is) c.requires.within in
    let there = at_place it.posts (cursor_of c.args.agent it.cursors) within in
    let new : BoardData = record {
      known = c.self.inside.known;
      closure = c.self.inside.closure;
      posts = c.self.inside.journal;
      active = c.self.inside.active;
      cursors = c.advance.new.cursors;
    } in
    subst (λ (b : BoardData). IsRead c.args.agent b new) c.self.view_is (record {
      post = there.0;
      stands = there.1;
      closure = reads_nothing c.args.agent c.requires.other (cursor_of c.args.agent it.cursors) there.0 it.closure;
      cursors = c.advance.ensures;
      posts = refl;
      known = refl;
      active = refl;
    })
