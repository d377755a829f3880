use Rattle.std.specs.Prelude.{◌+◌, ◌<◌, length, slice_get, ◌≡◌, Some}
use Rattle.std.proofs.Common.{sym, subst, refl}
use Rattle.grind_congruence.specs.Congruence.{Congruence}
use Rattle.grind_board_state.specs.States.{BoardData, IsBoard, IsRead}
use Rattle.grind_board_state.specs.declared.agent.Agent.TheVariants as agents
use Rattle.grind_board_state.proofs.StateLemmas.{item_read, sides_active, read_by_closure}
use Rattle.grind_board_state.proofs.state.BoardState.read_by_closure.Goals as goal

pub take_in-requires-clause-sides : goal.take_in-requires-clause-sides
take_in-requires-clause-sides c =
    let it : BoardData = record {
      known = c.self.inside.known;
      closure = c.self.inside.closure;
      posts = c.self.inside.journal;
      active = c.self.inside.active;
      cursors = c.self.inside.cursors;
    } in
    let within : it.cursors.closure < length it.posts =
    subst (λ (b : BoardData). b.cursors.closure < length b.posts) (sym c.self.view_is) c.requires in
    let post = c.index-as_slice-number.result in
    let stands : slice_get it.posts it.cursors.closure ≡ Some post =
    item_read it.posts c.as_slice.result.now it.cursors.closure post c.as_slice.ensures.value within c.index-as_slice-number.is in
    sides_active it it.cursors.closure post c.self.invariant stands

pub invariant_of-self : goal.invariant_of-self
invariant_of-self c =
    subst (λ (k : Congruence). IsBoard (record {
      known = c.self.inside.known;
      closure = k;
      posts = c.self.inside.journal;
      active = c.self.inside.active;
      cursors = c.self.inside.cursors;
    })) (sym c.in_err-take_in.ensures.err) c.self.invariant

pub invariant_of-self-2 : goal.invariant_of-self-2
invariant_of-self-2 c =
    let it : BoardData = record {
      known = c.self.inside.known;
      closure = c.self.inside.closure;
      posts = c.self.inside.journal;
      active = c.self.inside.active;
      cursors = c.self.inside.cursors;
    } in
    let within : it.cursors.closure < length it.posts =
    subst (λ (b : BoardData). b.cursors.closure < length b.posts) (sym c.self.view_is) c.requires in
    let post = c.index-as_slice-number.result in
    let stands : slice_get it.posts it.cursors.closure ≡ Some post =
    item_read it.posts c.as_slice.result.now it.cursors.closure post c.as_slice.ensures.value within c.index-as_slice-number.is in
    read_by_closure it post c.take_in.new.closure c.self.invariant stands c.in_ok-take_in.ensures.ok c.in_ok-take_in.ensures.fits

pub returns-clause-ok : goal.returns-clause-ok
returns-clause-ok c =
    let it : BoardData = record {
      known = c.self.inside.known;
      closure = c.self.inside.closure;
      posts = c.self.inside.journal;
      active = c.self.inside.active;
      cursors = c.self.inside.cursors;
    } in
    let within : it.cursors.closure < length it.posts =
    subst (λ (b : BoardData). b.cursors.closure < length b.posts) (sym c.self.view_is) c.requires in
    let post = c.index-as_slice-number.result in
    let stands : slice_get it.posts it.cursors.closure ≡ Some post =
    item_read it.posts c.as_slice.result.now it.cursors.closure post c.as_slice.ensures.value within c.index-as_slice-number.is in
    let new : BoardData = record {
      known = c.self.inside.known;
      closure = c.take_in.new.closure;
      posts = c.self.inside.journal;
      active = c.self.inside.active;
      cursors = record {
        closure = c.self.inside.cursors.closure + 1;
        truth = c.self.inside.cursors.truth;
        ring = c.self.inside.cursors.ring;
        cutsat = c.self.inside.cursors.cutsat;
        matching = c.self.inside.cursors.matching;
      };
    } in
    subst (λ (b : BoardData). IsRead agents.Closure b new) c.self.view_is (record {
      post = post;
      stands = stands;
      closure = c.in_ok-take_in.ensures.ok;
      cursors = refl;
      posts = refl;
      known = refl;
      active = refl;
    })
