use Rattle.grind_claims.specs.Claims.{claims_of}
use Rattle.grind_truth_tables.specs.Needed.{told}
use Rattle.grind_truth_tables.specs.Tables.{truth_of}
use Rattle.grind_truth_tables.proofs.FollowsLemmas.{answer_agrees}
use Rattle.grind_truth_tables.proofs.table.follows_under.Goals as goal

pub returns : goal.returns
returns c =
    answer_agrees (told c.in_ok-known.known) (truth_of c.args.question.now.terms.now.nodes c.args.question.now.free.now c.args.chosen.now)
    (claims_of c.args.question.now.premises.now) c.args.question.now.claim.now c.follows-follows.result
    (λ n names. c.in_ok-known.ensures n (c.requires.named n names)) c.follows-follows.ensures
