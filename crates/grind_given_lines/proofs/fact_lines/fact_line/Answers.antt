use Rattle.grind_proof_writer.proofs.LineLemmas.{Appends-through}
use Rattle.grind_given_lines.proofs.fact_lines.fact_line.Goals as goal

pub returns-in_err-number-clause-writes : goal.returns-in_err-number-clause-writes
returns-in_err-number-clause-writes c =
    let writer = c.args.writer.now in
    Appends-through writer.lemmas.now writer.goal.now c.args.proof.now c.source_line.new.proof c.sides_line.new.proof writer.branch
    c.source_line.ensures.writes c.sides_line.ensures.writes

pub returns-then-is_plain-clause-writes : goal.returns-then-is_plain-clause-writes
returns-then-is_plain-clause-writes c =
    let writer = c.args.writer.now in
    Appends-through writer.lemmas.now writer.goal.now c.args.proof.now c.source_line.new.proof c.sides_line.new.proof writer.branch
    c.source_line.ensures.writes c.sides_line.ensures.writes

pub returns-in_err-turned-clause-writes : goal.returns-in_err-turned-clause-writes
returns-in_err-turned-clause-writes c =
    let writer = c.args.writer.now in
    Appends-through writer.lemmas.now writer.goal.now c.args.proof.now c.source_line.new.proof c.turned_line.new.proof writer.branch
    c.source_line.ensures.writes c.turned_line.ensures.writes

pub returns-in_err-number-2-clause-writes : goal.returns-in_err-number-2-clause-writes
returns-in_err-number-2-clause-writes c =
    let writer = c.args.writer.now in
    Appends-through writer.lemmas.now writer.goal.now c.args.proof.now c.source_line.new.proof c.sides_line-2.new.proof writer.branch
    c.source_line.ensures.writes
    (Appends-through writer.lemmas.now writer.goal.now c.source_line.new.proof c.turned_line.new.proof c.sides_line-2.new.proof writer.branch
    c.turned_line.ensures.writes c.sides_line-2.ensures.writes)

pub returns-clause-writes : goal.returns-clause-writes
returns-clause-writes c =
    let writer = c.args.writer.now in
    Appends-through writer.lemmas.now writer.goal.now c.args.proof.now c.source_line.new.proof c.sides_line-2.new.proof writer.branch
    c.source_line.ensures.writes
    (Appends-through writer.lemmas.now writer.goal.now c.source_line.new.proof c.turned_line.new.proof c.sides_line-2.new.proof writer.branch
    c.turned_line.ensures.writes c.sides_line-2.ensures.writes)
