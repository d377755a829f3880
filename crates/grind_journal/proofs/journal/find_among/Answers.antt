use Rattle.std.proofs.Common.{sym, ◌∙◌}
use Rattle.std.proofs.lemmas.Bool.{false≢true}
use Rattle.grind_journal.proofs.Passing.{found_here, one_more, none_stands}
use Rattle.grind_journal.proofs.journal.find_among.Goals as goal

pub returns-then-is_same_claim-clause-found : goal.returns-then-is_same_claim-clause-found
returns-then-is_same_claim-clause-found c =
    found_here c.args.posts.now c.args.claim.now c.loop-post.rest.now c.in-Some.tail.now c.in-Some.post.now c.loop-post.number
    c.loop-post.invariant c.in-Some.ensures.cases.0 (c.is_same_claim.ensures.0 c.if-is_same_claim.true)

pub loop-post-preserved : goal.loop-post-preserved
loop-post-preserved c =
    one_more c.args.posts.now c.args.claim.now c.loop-post.rest.now c.in-Some.tail.now c.in-Some.post.now c.loop-post.number
    c.loop-post.invariant c.in-Some.ensures.cases.0 (λ same. false≢true (sym c.if-is_same_claim.false ∙ c.is_same_claim.ensures.1 same))

pub returns-clause-none : goal.returns-clause-none
returns-clause-none c = λ _.
    none_stands c.args.posts.now c.args.claim.now c.loop-post.rest.now c.loop-post.number c.loop-post.invariant c.in_default.ensures.cases
