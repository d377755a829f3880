use Rattle.grind_proof_writer.specs.Lines.{Appends}
use Rattle.grind_proof_writer.proofs.LineLemmas.{put_line_typed, put_appends, put_last, IsReady-appends}
use Rattle.grind_proof_writer.proofs.writer.Writer.put.Goals as goal

grown : (c : goal.In_ok-number) → Appends c.args.self.now.lemmas.now c.args.self.now.goal.now c.args.proof.now c.derive.new.proof c.args.self.now.branch
grown c =
    let writer = c.args.self.now in
    put_appends c.typed_lines_stay.ensures writer.lemmas.now writer.goal.now c.args.proof.now c.derive.new.proof writer.branch c.args.rule
    c.args.premises c.args.claim c.in_ok-number.ensures.ok c.requires.ready.typed
    (put_line_typed c.typed_next_line.ensures writer.lemmas.now writer.goal.now c.args.proof.now writer.branch c.args.rule c.args.premises
    c.args.claim c.requires.ready c.requires.formed c.requires.usable c.requires.allowed)

pub returns-clause-writes : goal.returns-clause-writes
returns-clause-writes c = grown c

pub returns-clause-ready : goal.returns-clause-ready
returns-clause-ready c =
    let writer = c.args.self.now in
    IsReady-appends writer.lemmas.now writer.goal.now c.args.proof.now c.derive.new.proof writer.branch c.requires.ready (grown c)

pub returns-clause-ends : goal.returns-clause-ends
returns-clause-ends c =
    put_last c.args.proof.now c.derive.new.proof c.args.self.now.branch c.args.rule c.args.premises c.args.claim c.in_ok-number.number
    c.in_ok-number.ensures.ok c.in_ok-number.ensures.number
