use Rattle.std.specs.Prelude.{List}
use Rattle.std.proofs.Common.{sym, subst}
use Rattle.grind_claims.specs.Claims.{IsFormed}
use Rattle.grind_report_words.specs.declared.board.Post.{Post}
use Rattle.grind_known_posts.specs.Laws.{SpeaksOf}
use Rattle.grind_board_state.specs.States.{BoardData, active_nodes, IsBoard}
use Rattle.grind_board_state.proofs.StateLemmas.{posted_board}
use Rattle.grind_board_state.proofs.state.BoardState.post.Goals as goal

pub invariant_of-self-2 : goal.invariant_of-self-2
invariant_of-self-2 c =
    let it : BoardData = record {
      known = c.self.inside.known;
      closure = c.self.inside.closure;
      posts = c.self.inside.journal;
      active = c.self.inside.active;
      cursors = c.self.inside.cursors;
    } in
    let formed : IsFormed it.known.terms.nodes c.args.post.claim =
    subst (λ (b : BoardData). IsFormed b.known.terms.nodes c.args.post.claim) (sym c.self.view_is) c.requires.formed in
    let speaks : SpeaksOf (active_nodes it.active) c.args.post.claim =
    subst (λ (b : BoardData). SpeaksOf (active_nodes b.active) c.args.post.claim) (sym c.self.view_is) c.requires.speaks in
    subst (λ (posts : List Post). IsBoard (record {
      known = c.make.new.known;
      closure = c.self.inside.closure;
      posts = posts;
      active = c.self.inside.active;
      cursors = c.self.inside.cursors;
    })) (sym c.in_ok-make.ensures.made)
    (posted_board it c.args.post c.make.new.known c.self.invariant c.in_ok-make.ensures.terms (c.in_ok-make.ensures.known c.self.invariant.knows)
    formed speaks)
