use Rattle.grind_command.proofs.NotesLemmas.{Notes-refused, Notes-behind}
use Rattle.grind_command.proofs.notes.write_pair.Goals as goal

pub returns-in-Err : goal.returns-in-Err
returns-in-Err g c =
    let last = c.in-Err.ensures.last in
    Notes-refused g.E.Sink.written g.E.Sink.refuses c.args.notes.now c.write_whole.new.sink c.args.name.now c.args.after.now
    c.in-Err.ensures.err (last.0, last.1, c.in-Err.refusal, last.2)

pub returns : goal.returns
returns g c =
    Notes-behind g.E.Sink.written g.E.Sink.refuses c.args.notes.now c.write_whole.new.sink c.write_last.new.notes c.args.name.now
    c.args.after.now c.in_default.ensures.ok c.write_last.ensures
