use Rattle.std.proofs.Common.{◌≡◌, ◌⊎◌, ap, ◌∙◌, subst, sym}
use Rattle.grind_command.specs.declared.status.Status.{Status}
use Rattle.grind_command.specs.declared.status.Status.TheVariants.{TheoryRefused, Memory}
use Rattle.grind_answers.specs.Endings.{IsAnswer}
use Rattle.grind_answers.proofs.EndingLemmas.{one_name, ends_complete, ends_refused}
use Rattle.grind_command.specs.Statuses.{status_of}
use Rattle.grind_cli.proofs.run.run.Goals as goal

pub returns-clause-complete : goal.returns-clause-complete
returns-clause-complete g c = λ name bytes theory is held short of read_calm write_calm.
    let same = one_name _ c.in-Some.name.now name c.in-Some.ensures.some is in
    subst (λ (st : Status). IsAnswer st ⊎ (st ≡ Memory)) (sym c.status_of.ensures)
    (ends_complete (g.H.Shelf.faults c.args.shelf.now) (g.H.Shelf.faults c.solve-ending.new.shelf) (g.K.Sink.written c.args.out.now)
    (g.K.Sink.written c.solve-ending.new.out) (g.K.Sink.faults c.args.out.now) (g.K.Sink.faults c.solve-ending.new.out)
    (g.H.Shelf.content c.args.shelf.now c.in-Some.name.now) bytes (ap (g.H.Shelf.content c.args.shelf.now) same ∙ held) read_calm
    (status_of c.solve-ending.result) theory short of write_calm c.solve-ending.ensures.ends)

pub returns-clause-no_theory : goal.returns-clause-no_theory
returns-clause-no_theory g c = λ name bytes is held short none read_calm.
    let same = one_name _ c.in-Some.name.now name c.in-Some.ensures.some is in
    subst (λ (st : Status). (st ≡ TheoryRefused) ⊎ (st ≡ Memory)) (sym c.status_of.ensures)
    (ends_refused (g.H.Shelf.faults c.args.shelf.now) (g.H.Shelf.faults c.solve-ending.new.shelf) (g.K.Sink.written c.args.out.now)
    (g.K.Sink.written c.solve-ending.new.out) (g.K.Sink.faults c.args.out.now) (g.K.Sink.faults c.solve-ending.new.out)
    (g.H.Shelf.content c.args.shelf.now c.in-Some.name.now) bytes (ap (g.H.Shelf.content c.args.shelf.now) same ∙ held) read_calm
    (status_of c.solve-ending.result) short none c.solve-ending.ensures.ends)
