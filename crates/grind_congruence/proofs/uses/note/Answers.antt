use Rattle.std.specs.Prelude.{◌≡◌, [], ◌∷◌, Some, set, slice_get}
use Rattle.std.proofs.lemmas.List.Elements.{Contains-append_left}
use Rattle.grind_congruence.proofs.UsesLemmas.{note_keeps}
use Rattle.grind_congruence.proofs.uses.note.Goals as goal

pub returns-in-Ok-clause-keeps : goal.returns-in-Ok-clause-keeps
returns-in-Ok-clause-keeps c =
    let stood : slice_get c.reach.new.uses c.args.n ≡ Some c.replace-places.result = rw c.number.ensures at c.replace-places.ensures.value in
    let lists_are : c.replace-places.new.self ≡ set c.reach.new.uses c.args.n [] = rw (c.number.ensures, c.new.ensures) at c.replace-places.ensures.new in
    let new_is : c.set.new.self ≡ set (set c.reach.new.uses c.args.n []) c.args.n c.push.new.self = rw (c.number-in-Ok.ensures, lists_are) at c.set.ensures in
    note_keeps c.args.uses.now c.reach.new.uses c.set.new.self c.args.n c.replace-places.result c.push.new.self c.reach.ensures.same stood new_is
    (λ i has. rw c.in-Ok.ensures.ok (Contains-append_left c.replace-places.result (c.args.place ∷ []) i has))

pub returns-in-Err-clause-keeps : goal.returns-in-Err-clause-keeps
returns-in-Err-clause-keeps c =
    let stood : slice_get c.reach.new.uses c.args.n ≡ Some c.replace-places.result = rw c.number.ensures at c.replace-places.ensures.value in
    let lists_are : c.replace-places.new.self ≡ set c.reach.new.uses c.args.n [] = rw (c.number.ensures, c.new.ensures) at c.replace-places.ensures.new in
    let new_is : c.set-in-Err.new.self ≡ set (set c.reach.new.uses c.args.n []) c.args.n c.push.new.self = rw (c.number-in-Err.ensures, lists_are) at c.set-in-Err.ensures in
    note_keeps c.args.uses.now c.reach.new.uses c.set-in-Err.new.self c.args.n c.replace-places.result c.push.new.self c.reach.ensures.same stood new_is
    (λ i has. rw c.in-Err.ensures.err has)
