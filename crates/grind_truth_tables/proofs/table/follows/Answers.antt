use Rattle.std.proofs.Common.{◌≡◌, true, false, Some, IsTrue}
use Rattle.grind_truth_tables.specs.Tables.{conclusion_truth}
use Rattle.grind_truth_tables.specs.Needed.{told}
use Rattle.grind_truth_tables.proofs.FollowsLemmas.{none_follows, true_follows, false_follows}
use Rattle.grind_truth_tables.proofs.table.follows.Goals as goal

pub returns-then-not-are_expressed : goal.returns-then-not-are_expressed
returns-then-not-are_expressed c =
    none_follows (told c.args.known.now) c.args.premises.now c.args.claim.now c.are_expressed.result
    c.if-not-are_expressed.true c.are_expressed.ensures

pub returns-then-concluded : goal.returns-then-concluded
returns-then-concluded c =
    let truth : conclusion_truth (told c.args.known.now) c.args.claim.now ≡ Some true = cc in
    let is : IsTrue c.in-Some.concluded = c.if-concluded.true in (
      λ y. true_follows (told c.args.known.now) c.args.premises.now c.args.claim.now truth
          (c.are_expressed.ensures.0 c.if-not-are_expressed.false),
      λ h. is,
    )

pub returns-else-concluded : goal.returns-else-concluded
returns-else-concluded c =
    let truth : conclusion_truth (told c.args.known.now) c.args.claim.now ≡ Some false = cc in
    false_follows (told c.args.known.now) c.args.premises.now c.args.claim.now c.all_hold.result
    truth (c.are_expressed.ensures.0 c.if-not-are_expressed.false) c.all_hold.ensures
