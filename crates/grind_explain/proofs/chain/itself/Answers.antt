use Rattle.std.specs.Prelude.{refl}
use Rattle.grind_claims.specs.declared.claim.Claim.TheVariants.{Same}
use Rattle.grind_proof_writer.proofs.LineLemmas.{Tells-last}
use Rattle.grind_explain.proofs.NotedLemmas.{Goes-none, Goes-line, AreLines-line}
use Rattle.grind_explain.proofs.chain.itself.Goals as goal

pub returns-in-Some-clause-goes : goal.returns-in-Some-clause-goes
returns-in-Some-clause-goes c = Goes-none c.args.proof.now c.args.told.now

pub returns-clause-goes : goal.returns-clause-goes
returns-clause-goes c =
    let writer = c.args.writer.now in
    Goes-line writer.lemmas.now writer.goal.now c.args.proof.now c.reflexive.new.proof writer.branch c.args.told.now c.put.new.self c.args.a c.args.a
    c.in_ok-number.number c.reflexive.ensures.writes c.in_ok-number.ensures.next c.in_ok-number.ensures.ends c.in_default.ensures
    c.in_ok-put.ensures.ok (refl, refl)

pub returns-clause-lines : goal.returns-clause-lines
returns-clause-lines c =
    let writer = c.args.writer.now in
    AreLines-line writer.lemmas.now writer.goal.now c.args.proof.now c.reflexive.new.proof writer.branch c.args.told.now c.put.new.self c.args.a c.args.a
    c.in_ok-number.number c.reflexive.ensures.writes c.in_ok-number.ensures.ends c.requires.lines c.in_ok-put.ensures.ok

pub returns-clause-tells : goal.returns-clause-tells
returns-clause-tells c =
    Tells-last c.reflexive.new.proof c.args.writer.now.branch c.in_ok-number.number (Same c.args.a c.args.a) c.in_ok-number.ensures.ends
