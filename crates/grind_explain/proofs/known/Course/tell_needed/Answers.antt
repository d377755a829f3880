use Rattle.grind_proof_writer.proofs.LineLemmas.{Appends-through}
use Rattle.grind_explain.proofs.KnownLemmas.{AreKnownSoFar-start, AreKnownSoFar-step}
use Rattle.grind_explain.proofs.known.Course.tell_needed.Goals as goal

pub loop-place-init : goal.loop-place-init
loop-place-init c =
    let writer = c.args.self.now.writer.now in
    AreKnownSoFar-start writer.lemmas.now writer.goal.now c.args.proof.now c.args.told.now writer.branch c.args.self.now.closure.now
    c.args.self.now.whys.now c.args.self.now.plan.now c.requires.ready c.requires.lines c.requires.given

pub returns-in_err-tell_place-clause-writes : goal.returns-in_err-tell_place-clause-writes
returns-in_err-tell_place-clause-writes c =
    let writer = c.args.self.now.writer.now in
    Appends-through writer.lemmas.now writer.goal.now c.args.proof.now c.loop-place.proof c.tell_place.new.proof writer.branch
    c.loop-place.invariant.appends c.tell_place.ensures.writes

pub loop-place-preserved : goal.loop-place-preserved
loop-place-preserved c =
    let writer = c.args.self.now.writer.now in
    AreKnownSoFar-step writer.lemmas.now writer.goal.now c.args.proof.now c.loop-place.proof c.tell_place.new.proof c.args.told.now c.loop-place.told
    c.tell_place.new.told writer.branch c.args.self.now.closure.now c.args.self.now.whys.now c.args.self.now.plan.now c.loop-place.place
    c.loop-place.invariant c.tell_place.ensures.writes c.tell_place.ensures.ready c.in_ok-tell_place.ensures.goes c.in_ok-tell_place.ensures.lines
    c.in_ok-tell_place.ensures.known
