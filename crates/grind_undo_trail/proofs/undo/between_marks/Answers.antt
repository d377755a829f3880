use Rattle.std.specs.Prelude.{◌≡◌, ◌+◌, ◌∷◌, ◌++◌, [], length, take}
use Rattle.std.proofs.Common.{arith, ◌∙◌, refl}
use Rattle.grind_undo_trail.proofs.LawLemmas.{undone, stays_in_force, kept_views}
use Rattle.grind_undo_trail.proofs.undo.between_marks.Given
use Rattle.grind_undo_trail.proofs.undo.between_marks.Goals as goal

-- the calls left the views at the marks, that of the new mark among them
kept : (g : Given.Over) (c : goal.After-undo-arg-1 g) → take (length (g.T.Undo.marked c.args.value.now) + 1) (g.T.Undo.marked c.calls.new.arg2)
    ≡ g.T.Undo.marked c.args.value.now ++ g.T.Undo.present c.args.value.now ∷ []
kept g c = kept_views (g.T.Undo.marked c.args.value.now) (g.T.Undo.present c.args.value.now) (g.T.Undo.marked c.mark.new.self)
    (g.T.Undo.marked c.calls.new.arg2) (c.in_ok-mark.ensures.marked)
    (c.requires.keeps c.mark.new.self c.calls.new.arg2 c.calls.result
    (record { shown = _; shows = refl; left = _; met = c.calls.ensures; leaves = refl }))

-- and so they were until the end
kept_to_the_end : (g : Given.Over) (c : goal.After-undo g) → take (length (g.T.Undo.marked c.args.value.now) + 1) (g.T.Undo.marked c.calls.new.arg2)
    ≡ g.T.Undo.marked c.args.value.now ++ g.T.Undo.present c.args.value.now ∷ []
kept_to_the_end g c = kept_views (g.T.Undo.marked c.args.value.now) (g.T.Undo.present c.args.value.now) (g.T.Undo.marked c.mark.new.self)
    (g.T.Undo.marked c.calls.new.arg2) (c.in_ok-mark.ensures.marked)
    (c.requires.keeps c.mark.new.self c.calls.new.arg2 c.calls.result
    (record { shown = _; shows = refl; left = _; met = c.calls.ensures; leaves = refl }))

pub undo-requires : goal.undo-requires
undo-requires g c =
    omega (arith, c.in_ok-mark.ensures.place, stays_in_force (g.T.Undo.marked c.args.value.now) (g.T.Undo.present c.args.value.now) (g.T.Undo.marked c.calls.new.arg2) (kept g c))

pub returns-clause-present : goal.returns-clause-present
returns-clause-present g c =
    (undone (g.T.Undo.present c.args.value.now) (g.T.Undo.present c.undo.new.self) (g.T.Undo.marked c.args.value.now)
    (g.T.Undo.marked c.calls.new.arg2) (kept_to_the_end g c) (rw c.in_ok-mark.ensures.place at c.undo.ensures.present)).0

pub returns-clause-marked : goal.returns-clause-marked
returns-clause-marked g c =
    (rw c.in_ok-mark.ensures.place at c.undo.ensures.marked)
    ∙ (undone (g.T.Undo.present c.args.value.now) (g.T.Undo.present c.undo.new.self) (g.T.Undo.marked c.args.value.now)
    (g.T.Undo.marked c.calls.new.arg2) (kept_to_the_end g c) (rw c.in_ok-mark.ensures.place at c.undo.ensures.present)).1
