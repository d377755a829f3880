use Rattle.grind_answers.proofs.WrittenLemmas.{WritesPart-blocks, WritesPart-end, WritesReport-whole, AwaitsGoals-all}
use Rattle.grind_cli.proofs.writing.write_report.Goals as goal

pub returns-in-Err-write_blocks-clause-err : goal.returns-in-Err-write_blocks-clause-err
returns-in-Err-write_blocks-clause-err g c =
    WritesPart-blocks c.args.signature.now c.args.lemmas.now c.args.goals.now (g.K.Sink.written c.args.out.now)
    (g.K.Sink.written c.write_header.new.out) (g.K.Sink.written c.write_blocks.new.out) c.in_default.ensures.ok
    c.in-Err-write_blocks.ensures.err

pub returns-in-Err-write_end-clause-err : goal.returns-in-Err-write_end-clause-err
returns-in-Err-write_end-clause-err g c =
    let made = c.in-Ok.ensures.ok in
    WritesPart-end c.args.signature.now c.args.lemmas.now c.args.goals.now (g.K.Sink.written c.args.out.now)
    (g.K.Sink.written c.write_header.new.out) (g.K.Sink.written c.write_blocks.new.out) (g.K.Sink.written c.write_end.new.out) made.0
    c.in_default.ensures.ok made.1 c.in-Err-write_end.ensures.err

pub returns-clause-ok : goal.returns-clause-ok
returns-clause-ok g c =
    let made = c.in-Ok.ensures.ok in (
      _,
      (record { blocks = made.0 }),
      WritesReport-whole c.args.signature.now c.args.lemmas.now c.args.goals.now (g.K.Sink.written c.args.out.now)
          (g.K.Sink.written c.write_header.new.out) (g.K.Sink.written c.write_blocks.new.out) (g.K.Sink.written c.write_end.new.out) made.0
          c.requires.few c.in_default.ensures.ok made.1 c.in_default-write_end.ensures.ok,
      made.2,
    )

pub write_blocks-requires-clause-header : goal.write_blocks-requires-clause-header
write_blocks-requires-clause-header g c =
    AwaitsGoals-all c.args.signature.now c.args.lemmas.now c.args.goals.now (g.K.Sink.written c.args.out.now)
    (g.K.Sink.written c.write_header.new.out) c.in_default.ensures.ok
