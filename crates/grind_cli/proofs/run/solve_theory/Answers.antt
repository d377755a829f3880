use Rattle.std.proofs.Common.{List, ◌∙◌, subst, sym}
use Rattle.std.proofs.lemmas.Bool.{false≢true}
use Rattle.grind_schemes.specs.Goals.{GoalData}
use Rattle.grind_answers.specs.Answers.{WritesReport, WritesPart}
use Rattle.grind_cli.proofs.run.solve_theory.Goals as goal

pub returns-in-Ok-true-clause-ends : goal.returns-in-Ok-true-clause-ends
returns-in-Ok-true-clause-ends g c =
    let found = c.in-Ok-true.ensures.ok in
    let theory = c.args.theory.now in
    let old = g.K.Sink.written c.args.out.now in
    let new = g.K.Sink.written c.write_report.new.out in (
      found.0,
      found.1,
      subst (λ (gs : List GoalData). WritesReport theory.signature theory.lemmas gs old new found.0 found.1) c.as_slice-goals.ensures.value found.2,
      found.3.0 c.in-Ok-true.field-0-test,
    )

pub returns-in-Ok-false-clause-ends : goal.returns-in-Ok-false-clause-ends
returns-in-Ok-false-clause-ends g c =
    let found = c.in-Ok-false.ensures.ok in
    let theory = c.args.theory.now in
    let old = g.K.Sink.written c.args.out.now in
    let new = g.K.Sink.written c.write_report.new.out in (
      found.0,
      found.1,
      subst (λ (gs : List GoalData). WritesReport theory.signature theory.lemmas gs old new found.0 found.1) c.as_slice-goals.ensures.value found.2,
      λ all. false≢true (sym c.in-Ok-false.field-0-test ∙ found.3.1 all),
    )

pub returns-in-Err-Failed-clause-ends : goal.returns-in-Err-Failed-clause-ends
returns-in-Err-Failed-clause-ends g c =
    let theory = c.args.theory.now in
    let old = g.K.Sink.written c.args.out.now in
    let new = g.K.Sink.written c.write_report.new.out in (
      rw c.in-Err-Failed.field-0-is at c.in-Err-Failed.ensures.failed,
      subst (λ (gs : List GoalData). WritesPart theory.signature theory.lemmas gs old new) c.as_slice-goals.ensures.value c.in-Err-Failed.ensures.err,
    )

pub returns-in-Err-Memory-clause-ends : goal.returns-in-Err-Memory-clause-ends
returns-in-Err-Memory-clause-ends g c =
    let theory = c.args.theory.now in
    let old = g.K.Sink.written c.args.out.now in
    let new = g.K.Sink.written c.write_report.new.out in
    subst (λ (gs : List GoalData). WritesPart theory.signature theory.lemmas gs old new) c.as_slice-goals.ensures.value c.in-Err-Memory.ensures.err
