use Rattle.std.specs.Prelude.{ℕ, Bool}
use Rattle.std.proofs.Common.{subst}
use Rattle.grind_claims.specs.declared.claim.Claim.{Claim}
use Rattle.grind_claims.specs.declared.proof.Proof.{Proof}
use Rattle.grind_claims.specs.declared.claim.Claim.TheVariants.{Same, Differ}
use Rattle.grind_proof_writer.specs.Lines.{Tells}
use Rattle.grind_proof_writer.proofs.LineLemmas.{Tells-stays, Tells-last, IsUsable-tells, claim_at-tells}
use Rattle.grind_given_lines.specs.Writing.{sides_claim}
use Rattle.grind_goal_equations.specs.Facts.{equates}
use Rattle.grind_given_lines.proofs.LineLemmas.{root_can_write, root_stays}
use Rattle.grind_case_split.proofs.RefutationLemmas.{split_clash}
use Rattle.grind_case_split.proofs.closing.refute.Goals as goal

pub explain-requires-clause-reasons : goal.explain-requires-clause-reasons
explain-requires-clause-reasons c = λ count _. c.requires.reasons count

pub explain-requires-clause-ready : goal.explain-requires-clause-ready
explain-requires-clause-ready c = root_can_write c.args.writer.now c.args.proof.now c.requires.root

pub fact_line-requires-clause-root : goal.fact_line-requires-clause-root
fact_line-requires-clause-root c =
    root_stays c.args.writer.now c.args.proof.now c.explain.new.proof c.requires.root c.in_ok-same.ensures.appends

pub clash_line-requires-clause-one : goal.clash_line-requires-clause-one
clash_line-requires-clause-one c =
    let writer = c.args.writer.now in
    let claim : Claim = Same c.args.fact.now.reading.left c.args.fact.now.reading.right in
    IsUsable-tells c.fact_line.new.proof writer.branch c.in_ok-same.same claim
    (Tells-stays writer.lemmas.now writer.goal.now c.explain.new.proof c.fact_line.new.proof writer.branch c.in_ok-same.same claim
    c.in_ok-differ.ensures.writes (Tells-last c.explain.new.proof writer.branch c.in_ok-same.same claim c.in_ok-same.ensures.last))

pub clash_line-requires-clause-other : goal.clash_line-requires-clause-other
clash_line-requires-clause-other c =
    IsUsable-tells c.fact_line.new.proof c.args.writer.now.branch c.in_ok-differ.differ
    (sides_claim (equates c.args.fact.now) c.args.fact.now.reading.left c.args.fact.now.reading.right) c.in_ok-differ.ensures.tells

pub clash_line-requires-clause-clash : goal.clash_line-requires-clause-clash
clash_line-requires-clause-clash c =
    let a : ℕ = c.args.fact.now.reading.left in
    let b : ℕ = c.args.fact.now.reading.right in
    let branch : ℕ = c.args.writer.now.branch in
    let new : Proof = c.fact_line.new.proof in
    let same : Tells new branch c.in_ok-same.same (Same a b) =
    Tells-stays c.args.writer.now.lemmas.now c.args.writer.now.goal.now c.explain.new.proof new branch c.in_ok-same.same (Same a b)
    c.in_ok-differ.ensures.writes (Tells-last c.explain.new.proof branch c.in_ok-same.same (Same a b) c.in_ok-same.ensures.last) in
    let differ : Tells new branch c.in_ok-differ.differ (Differ a b) =
    subst (λ (is : Bool). Tells new branch c.in_ok-differ.differ (sides_claim is a b)) c.requires.refuted.differs c.in_ok-differ.ensures.tells in
    split_clash new.terms.nodes new.lines c.in_ok-same.same c.in_ok-differ.differ a b
    (claim_at-tells new branch c.in_ok-same.same (Same a b) same) (claim_at-tells new branch c.in_ok-differ.differ (Differ a b) differ)
