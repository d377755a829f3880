use Rattle.std.specs.Prelude.{refl}
use Rattle.std.proofs.Common.{◌∙◌, inl, inr}
use Rattle.grind_claims.specs.declared.claim.Claim.TheVariants.{Same}
use Rattle.grind_proof_writer.proofs.LineLemmas.{Appends-through, Tells-stays}
use Rattle.grind_explain.proofs.NotedLemmas.{Goes-through, Goes-weaker}
use Rattle.grind_explain.proofs.chain.Way.go_on.Goals as goal

pub joined-requires-clause-first : goal.joined-requires-clause-first
joined-requires-clause-first c =
    let writer = c.args.self.now.writer.now in
    let so_far = c.args.so_far.now in
    Tells-stays writer.lemmas.now writer.goal.now c.args.proof.now c.passed.new.proof writer.branch so_far.line
    (Same so_far.left so_far.right) c.passed.ensures.writes c.requires.so_far

pub returns-in_err-line-clause-writes : goal.returns-in_err-line-clause-writes
returns-in_err-line-clause-writes c =
    let writer = c.args.self.now.writer.now in
    Appends-through writer.lemmas.now writer.goal.now c.args.proof.now c.passed.new.proof c.joined.new.proof writer.branch
    c.passed.ensures.writes c.joined.ensures.writes

pub returns-clause-writes : goal.returns-clause-writes
returns-clause-writes c =
    let writer = c.args.self.now.writer.now in
    Appends-through writer.lemmas.now writer.goal.now c.args.proof.now c.passed.new.proof c.joined.new.proof writer.branch
    c.passed.ensures.writes c.joined.ensures.writes

pub returns-clause-goes : goal.returns-clause-goes
returns-clause-goes c =
    let at = c.requires.passes in
    Goes-through c.args.proof.now c.passed.new.proof c.joined.new.proof c.args.told.now c.passed.new.told c.joined.new.told
    (Goes-weaker c.args.proof.now c.passed.new.proof c.args.told.now c.passed.new.told (λ x y h. (y, h.1, inl (refl, inl h.0)))
    c.in_ok-passed.ensures.goes)
    (Goes-weaker c.passed.new.proof c.joined.new.proof c.passed.new.told c.joined.new.told
    (λ x y h. (at.0, at.1, inl (h.1 ∙ c.in_ok-passed.ensures.only at.0 at.1, inr h.0))) c.in_ok-line.ensures.goes)
