use Rattle.std.specs.Prelude.{◌++◌, codes}
use Rattle.grind_command.specs.Statuses.{refusal_words}
use Rattle.grind_command.proofs.NotesLemmas.{Notes-refused, Notes-behind}
use Rattle.grind_command.proofs.notes.write_refusal.Goals as goal

pub returns-in-Err : goal.returns-in-Err
returns-in-Err g c =
    let last = c.in-Err.ensures.last in
    Notes-refused g.E.Sink.written g.E.Sink.refuses c.args.notes.now c.write_whole.new.sink (codes "grind: ")
    (c.args.name.now ++ refusal_words c.args.refusal) c.in-Err.ensures.err (last.0, last.1, c.in-Err.refused, last.2)

pub returns : goal.returns
returns g c =
    Notes-behind g.E.Sink.written g.E.Sink.refuses c.args.notes.now c.write_whole.new.sink c.write_named.new.notes (codes "grind: ")
    (c.args.name.now ++ refusal_words c.args.refusal) c.in_default.ensures.ok c.write_named.ensures
