use Rattle.grind_answers.proofs.EndingLemmas.{ends_read, ends_unread, explains_unread}
use Rattle.grind_command.specs.Statuses.{status_of}
use Rattle.grind_cli.proofs.run.solve.Goals as goal

pub returns-in-Err-clause-ends : goal.returns-in-Err-clause-ends
returns-in-Err-clause-ends g c =
    ends_unread c.one_theory_of.ensures.none c.in-Err.ending (g.H.Shelf.content c.args.shelf.now c.args.name.now)
    (g.H.Shelf.faults c.args.shelf.now) (g.H.Shelf.faults c.read_theory.new.shelf) (g.K.Sink.written c.args.out.now)
    (g.K.Sink.faults c.args.out.now) c.in-Err.ensures.err

pub returns-in-Err-clause-why : goal.returns-in-Err-clause-why
returns-in-Err-clause-why g c =
    explains_unread c.in-Err.ending (g.H.Shelf.content c.args.shelf.now c.args.name.now) (g.H.Shelf.faults c.args.shelf.now)
    (g.H.Shelf.faults c.read_theory.new.shelf) c.in-Err.ensures.err

pub returns-clause-ends : goal.returns-clause-ends
returns-clause-ends g c =
    ends_read (status_of c.solve_theory.result) (g.H.Shelf.content c.args.shelf.now c.args.name.now) c.in-Ok.theory
    (g.H.Shelf.faults c.args.shelf.now) (g.H.Shelf.faults c.read_theory.new.shelf) (g.K.Sink.written c.args.out.now)
    (g.K.Sink.written c.solve_theory.new.out) (g.K.Sink.faults c.args.out.now) (g.K.Sink.faults c.solve_theory.new.out)
    c.in-Ok.ensures.ok c.solve_theory.ensures.ends
