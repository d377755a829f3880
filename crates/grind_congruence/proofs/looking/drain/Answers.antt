use Rattle.std.specs.Prelude.{◌<◌, ◌≤◌, Option, IsNone, length, refl}
use Rattle.std.proofs.Common.{arith, sym, subst}
use Rattle.grind_congruence.specs.declared.edge.Found.{Found}
use Rattle.grind_congruence.specs.Table.{agenda_of}
use Rattle.grind_congruence.proofs.AgendaLemmas.{KeepsUp-keys, KeepsUp-next}
use Rattle.grind_congruence.proofs.TableLemmas.{longer_itself, longer_through}
use Rattle.grind_congruence.proofs.looking.drain.Goals as goal

pub loop-cursor-init : goal.loop-cursor-init
loop-cursor-init c = record { stands = c.requires.stands; longer = longer_itself c.args.table.now }

pub overflow_cast-cursor : goal.overflow_cast-cursor
overflow_cast-cursor c =
    let within : c.loop-cursor.cursor ≤ length c.args.look.now.work.now = c.loop-cursor.invariant.stands.within in omega (arith, within, c.requires.bound)

pub look_at-requires-clause-sound : goal.look_at-requires-clause-sound
look_at-requires-clause-sound c = c.loop-cursor.invariant.stands.sound

pub returns-in_err-answer-clause-stands : goal.returns-in_err-answer-clause-stands
returns-in_err-answer-clause-stands c =
    KeepsUp-keys c.args.look.now.classes.now.lists c.loop-cursor.table c.look_at.new.table c.args.look.now.applications.now c.args.look.now.work.now
    c.loop-cursor.cursor c.look_at.ensures.longer c.look_at.ensures.sound c.loop-cursor.invariant.stands

pub returns-in_err-answer-clause-longer : goal.returns-in_err-answer-clause-longer
returns-in_err-answer-clause-longer c =
    longer_through c.args.table.now c.loop-cursor.table c.look_at.new.table c.loop-cursor.invariant.longer c.look_at.ensures.longer

pub returns-in-Some-clause-stands : goal.returns-in-Some-clause-stands
returns-in-Some-clause-stands c =
    KeepsUp-keys c.args.look.now.classes.now.lists c.loop-cursor.table c.look_at.new.table c.args.look.now.applications.now c.args.look.now.work.now
    c.loop-cursor.cursor c.look_at.ensures.longer c.look_at.ensures.sound c.loop-cursor.invariant.stands

pub returns-in-Some-clause-longer : goal.returns-in-Some-clause-longer
returns-in-Some-clause-longer c =
    longer_through c.args.table.now c.loop-cursor.table c.look_at.new.table c.loop-cursor.invariant.longer c.look_at.ensures.longer

pub loop-cursor-smaller : goal.loop-cursor-smaller
loop-cursor-smaller c =
    let below : c.loop-cursor.cursor < length c.args.look.now.work.now = omega (arith, c.loop-cursor-test.true) in omega (arith, below)

pub loop-cursor-preserved : goal.loop-cursor-preserved
loop-cursor-preserved c =
    let none : IsNone c.in_ok-answer.answer = subst (λ (o : Option Found). IsNone o) (sym c.in_default.is) refl in
    record {
      stands = KeepsUp-next c.args.look.now.classes.now.lists
          (agenda_of c.look_at.new.table c.args.look.now.applications.now c.args.look.now.work.now c.loop-cursor.cursor) c.place_at-place.result
          c.place_at-place.ensures (λ it stands. c.in_ok-answer.ensures.covered none it stands)
          (KeepsUp-keys c.args.look.now.classes.now.lists c.loop-cursor.table c.look_at.new.table c.args.look.now.applications.now c.args.look.now.work.now
          c.loop-cursor.cursor c.look_at.ensures.longer c.look_at.ensures.sound c.loop-cursor.invariant.stands);
      longer = longer_through c.args.table.now c.loop-cursor.table c.look_at.new.table c.loop-cursor.invariant.longer c.look_at.ensures.longer;
    }

pub returns-clause-stands : goal.returns-clause-stands
returns-clause-stands c = c.loop-cursor.invariant.stands

pub returns-clause-longer : goal.returns-clause-longer
returns-clause-longer c = c.loop-cursor.invariant.longer

pub returns-clause-none : goal.returns-clause-none
returns-clause-none c = λ _.
    let within : c.loop-cursor.cursor ≤ length c.args.look.now.work.now = c.loop-cursor.invariant.stands.within in
    omega (arith, within, c.loop-cursor-test.false)
