use Rattle.std.proofs.Common.{◌≡◌, List, Bool, true, false, arith, ◌++◌, ◌∷◌, [], ◌∙◌}
use Rattle.grind_claims.specs.Claims.{claims_of}
use Rattle.grind_truth_tables.specs.Tables.{truth_of, Follows}
use Rattle.grind_truth_tables.proofs.AssignmentLemmas.{leaf_answer, fails_answer, both_answer}
use Rattle.grind_truth_tables.proofs.table.+follows_always.Goals as goal

pub returns-then-more-eq0 : goal.returns-then-more-eq0
returns-then-more-eq0 t c =
    let P : List Bool → Type 0 = λ truths. Follows (truth_of c.args.question.now.terms.now.nodes c.args.question.now.free.now truths)
    (claims_of c.args.question.now.premises.now) c.args.question.now.claim.now in
    leaf_answer P c.args.chosen.now c.args.more c.in_ok-follows.follows c.if-more-eq0.true c.in_ok-follows.ensures

pub returns-then-not-if_true : goal.returns-then-not-if_true
returns-then-not-if_true t c =
    let P : List Bool → Type 0 = λ truths. Follows (truth_of c.args.question.now.terms.now.nodes c.args.question.now.free.now truths)
    (claims_of c.args.question.now.premises.now) c.args.question.now.claim.now in
    let longer : c.as_slice.result.now ≡ c.args.chosen.now ++ true ∷ [] = c.as_slice.ensures.value ∙ c.in_ok-with_true.ensures in
    fails_answer P c.args.chosen.now c.args.more true c.as_slice.result.now c.in_ok-if_true.if_true (omega arith) longer
    c.if-not-if_true.true c.in_ok-if_true.ensures

pub returns : goal.returns
returns t c =
    let P : List Bool → Type 0 = λ truths. Follows (truth_of c.args.question.now.terms.now.nodes c.args.question.now.free.now truths)
    (claims_of c.args.question.now.premises.now) c.args.question.now.claim.now in
    let first : c.as_slice.result.now ≡ c.args.chosen.now ++ true ∷ [] = c.as_slice.ensures.value ∙ c.in_ok-with_true.ensures in
    let second : c.as_slice-2.result.now ≡ c.args.chosen.now ++ false ∷ [] = c.as_slice-2.ensures.value ∙ c.in_ok-with_false.ensures in
    both_answer P c.args.chosen.now c.args.more c.as_slice.result.now c.as_slice-2.result.now
    c.in_ok-if_true.if_true c.in_ok-if_false.if_false (omega arith) first second c.if-not-if_true.false
    c.in_ok-if_true.ensures c.in_ok-if_false.ensures
