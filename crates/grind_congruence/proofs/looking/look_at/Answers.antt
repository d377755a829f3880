use Rattle.std.specs.Prelude.{◌≡◌}
use Rattle.std.proofs.Common.{sym, ◌∙◌, subst}
use Rattle.std.proofs.lemmas.Bool.{false≢true}
use Rattle.std.proofs.lemmas.Option.{same_Some}
use Rattle.grind_congruence.specs.declared.application.Application.{Application}
use Rattle.grind_congruence.specs.Table.{IsAt, IsSound, IsCovered}
use Rattle.grind_congruence.proofs.AgendaLemmas.{entered_there, entered_sound, leading_active, found_among}
use Rattle.grind_congruence.proofs.looking.look_at.Goals as goal

pub same-requires-clause-first : goal.same-requires-clause-first
same-requires-clause-first c =
    let here : IsAt c.args.look.now.applications.now c.args.place c.in-Some.it.now = c.in-Some.ensures.some in
    let sound : IsSound c.args.look.now.classes.now.lists c.args.look.now.applications.now c.enter.new.self =
    entered_sound c.args.look.now.classes.now.lists c.args.look.now.applications.now c.args.table.now c.enter.new.self c.in_ok-key.key
    c.in-Some.it.now c.args.place c.in_ok-m.m here c.in_ok-key.ensures c.in_ok-m.ensures.ok c.requires.sound in
    leading_active c.args.look.now.classes.now.lists c.args.look.now.applications.now c.enter.new.self c.in_ok-key.key c.in_ok-m.m sound
    (entered_there c.args.table.now c.enter.new.self c.in_ok-key.key c.in-Some.it.now.node c.in_ok-m.m c.in_ok-m.ensures.ok)

pub same-requires-clause-second : goal.same-requires-clause-second
same-requires-clause-second c =
    let here : IsAt c.args.look.now.applications.now c.args.place c.in-Some.it.now = c.in-Some.ensures.some in
    (c.requires.sound.active c.args.place c.in-Some.it.now here).0

pub returns-then-same-clause-sound : goal.returns-then-same-clause-sound
returns-then-same-clause-sound c =
    let here : IsAt c.args.look.now.applications.now c.args.place c.in-Some.it.now = c.in-Some.ensures.some in
    let sound : IsSound c.args.look.now.classes.now.lists c.args.look.now.applications.now c.enter.new.self =
    entered_sound c.args.look.now.classes.now.lists c.args.look.now.applications.now c.args.table.now c.enter.new.self c.in_ok-key.key
    c.in-Some.it.now c.args.place c.in_ok-m.m here c.in_ok-key.ensures c.in_ok-m.ensures.ok c.requires.sound in
    sound

pub returns-then-same-clause-covered : goal.returns-then-same-clause-covered
returns-then-same-clause-covered c = λ none it stands.
    let here : IsAt c.args.look.now.applications.now c.args.place c.in-Some.it.now = c.in-Some.ensures.some in
    let is : c.in-Some.it.now ≡ it = same_Some c.in-Some.it.now it (sym here ∙ stands) in
    subst (λ (i : Application). IsCovered c.args.look.now.classes.now.lists c.enter.new.self i) is (
      c.in_ok-key.key,
      c.in_ok-m.m,
      c.in_ok-key.ensures,
      entered_there c.args.table.now c.enter.new.self c.in_ok-key.key c.in-Some.it.now.node c.in_ok-m.m c.in_ok-m.ensures.ok,
      c.same.ensures.0 c.if-same.true,
    )

pub returns-clause-sound : goal.returns-clause-sound
returns-clause-sound c =
    let here : IsAt c.args.look.now.applications.now c.args.place c.in-Some.it.now = c.in-Some.ensures.some in
    let sound : IsSound c.args.look.now.classes.now.lists c.args.look.now.applications.now c.enter.new.self =
    entered_sound c.args.look.now.classes.now.lists c.args.look.now.applications.now c.args.table.now c.enter.new.self c.in_ok-key.key
    c.in-Some.it.now c.args.place c.in_ok-m.m here c.in_ok-key.ensures c.in_ok-m.ensures.ok c.requires.sound in
    sound

pub returns-clause-found : goal.returns-clause-found
returns-clause-found c =
    let here : IsAt c.args.look.now.applications.now c.args.place c.in-Some.it.now = c.in-Some.ensures.some in
    let sound : IsSound c.args.look.now.classes.now.lists c.args.look.now.applications.now c.enter.new.self =
    entered_sound c.args.look.now.classes.now.lists c.args.look.now.applications.now c.args.table.now c.enter.new.self c.in_ok-key.key
    c.in-Some.it.now c.args.place c.in_ok-m.m here c.in_ok-key.ensures c.in_ok-m.ensures.ok c.requires.sound in
    found_among c.args.look.now.classes.now.lists c.args.look.now.applications.now c.enter.new.self c.in_ok-key.key c.in-Some.it.now c.args.place
    c.in_ok-m.m c.requires.partition here c.in_ok-key.ensures sound
    (entered_there c.args.table.now c.enter.new.self c.in_ok-key.key c.in-Some.it.now.node c.in_ok-m.m c.in_ok-m.ensures.ok)
    (λ t. false≢true (sym c.if-same.false ∙ c.same.ensures.1 t))
