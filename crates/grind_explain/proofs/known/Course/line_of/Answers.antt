use Rattle.std.specs.Prelude.{length}
use Rattle.grind_proof_writer.proofs.LineLemmas.{Appends-through}
use Rattle.grind_explain.proofs.NotedLemmas.{Goes-through}
use Rattle.grind_explain.proofs.known.Course.line_of.Goals as goal

pub returns-in_err-number-clause-writes : goal.returns-in_err-number-clause-writes
returns-in_err-number-clause-writes c =
    let writer = c.args.self.now.writer.now in
    Appends-through writer.lemmas.now writer.goal.now c.args.proof.now c.tell_needed.new.proof c.line_of_arg.new.proof writer.branch
    c.tell_needed.ensures.writes c.line_of_arg.ensures.writes

pub returns-clause-writes : goal.returns-clause-writes
returns-clause-writes c =
    let writer = c.args.self.now.writer.now in
    Appends-through writer.lemmas.now writer.goal.now c.args.proof.now c.tell_needed.new.proof c.line_of_arg.new.proof writer.branch
    c.tell_needed.ensures.writes c.line_of_arg.ensures.writes

pub returns-clause-goes : goal.returns-clause-goes
returns-clause-goes c =
    Goes-through c.args.proof.now c.tell_needed.new.proof c.line_of_arg.new.proof c.args.told.now c.tell_needed.new.told c.line_of_arg.new.told
    c.in_ok-tell_needed.ensures.goes c.in_ok-number.ensures.goes

pub line_of_arg-requires-clause-known : goal.line_of_arg-requires-clause-known
line_of_arg-requires-clause-known c = (length c.args.self.now.plan.now.needed, c.in_ok-tell_needed.ensures.known, c.requires.joined)
