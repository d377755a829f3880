use Rattle.grind_proof_writer.proofs.LineLemmas.{Appends-through}
use Rattle.grind_explain.proofs.KnownLemmas.{within_appends}
use Rattle.grind_explain.proofs.NotedLemmas.{IsBrief-ends}
use Rattle.grind_explain.proofs.explanation.derive.Goals as goal

pub at_the_end-requires-clause-within : goal.at_the_end-requires-clause-within
at_the_end-requires-clause-within c =
    let writer = c.args.course.now.writer.now in
    within_appends writer.lemmas.now writer.goal.now c.args.proof.now c.line_of.new.proof writer.branch c.args.course.now.closure.now
    c.args.a c.args.b c.line_of.ensures.writes c.requires.given.fits c.requires.together

pub returns-in_err-last-clause-writes : goal.returns-in_err-last-clause-writes
returns-in_err-last-clause-writes c =
    let writer = c.args.course.now.writer.now in
    Appends-through writer.lemmas.now writer.goal.now c.args.proof.now c.line_of.new.proof c.at_the_end.new.proof writer.branch
    c.line_of.ensures.writes c.at_the_end.ensures.writes

pub returns-clause-writes : goal.returns-clause-writes
returns-clause-writes c =
    let writer = c.args.course.now.writer.now in
    Appends-through writer.lemmas.now writer.goal.now c.args.proof.now c.line_of.new.proof c.at_the_end.new.proof writer.branch
    c.line_of.ensures.writes c.at_the_end.ensures.writes

pub returns-clause-brief : goal.returns-clause-brief
returns-clause-brief c =
    let writer = c.args.course.now.writer.now in
    IsBrief-ends writer.lemmas.now writer.goal.now c.args.proof.now c.line_of.new.proof c.at_the_end.new.proof writer.branch c.new-told.result
    c.line_of.new.told c.in_ok-number.ensures.goes c.at_the_end.ensures.writes c.in_ok-last.ensures.short
