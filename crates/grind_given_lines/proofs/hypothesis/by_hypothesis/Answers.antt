use Rattle.grind_claims.specs.declared.claim.Claim.TheVariants.{Holds, Fails}
use Rattle.grind_proof_writer.proofs.LineLemmas.{Tells-stays, IsUsable-tells, claim_at-tells}
use Rattle.grind_given_lines.proofs.HypothesisLemmas.{opposed_clash}
use Rattle.grind_given_lines.proofs.hypothesis.by_hypothesis.Goals as goal

pub clash_line-requires-clause-clash : goal.clash_line-requires-clause-clash
clash_line-requires-clause-clash c =
    let writer = c.args.writer.now in
    opposed_clash c.put_first-2.new.proof.terms.nodes c.put_first-2.new.proof.lines c.in_ok-held.held c.in_ok-denied.denied c.show-show.result
    (claim_at-tells c.put_first-2.new.proof writer.branch c.in_ok-held.held (Holds c.show-show.result)
    (Tells-stays writer.lemmas.now writer.goal.now c.put_first.new.proof c.put_first-2.new.proof writer.branch c.in_ok-held.held
    (Holds c.show-show.result) c.in_ok-denied.ensures.writes c.in_ok-held.ensures.tells))
    (claim_at-tells c.put_first-2.new.proof writer.branch c.in_ok-denied.denied (Fails c.show-show.result) c.in_ok-denied.ensures.tells)

pub clash_line-requires-clause-one : goal.clash_line-requires-clause-one
clash_line-requires-clause-one c =
    let writer = c.args.writer.now in
    IsUsable-tells c.put_first-2.new.proof writer.branch c.in_ok-held.held (Holds c.show-show.result)
    (Tells-stays writer.lemmas.now writer.goal.now c.put_first.new.proof c.put_first-2.new.proof writer.branch c.in_ok-held.held
    (Holds c.show-show.result) c.in_ok-denied.ensures.writes c.in_ok-held.ensures.tells)

pub clash_line-requires-clause-other : goal.clash_line-requires-clause-other
clash_line-requires-clause-other c =
    IsUsable-tells c.put_first-2.new.proof c.args.writer.now.branch c.in_ok-denied.denied (Fails c.show-show.result) c.in_ok-denied.ensures.tells
