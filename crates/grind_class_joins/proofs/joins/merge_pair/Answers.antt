use Rattle.std.proofs.Common.{inr}
use Rattle.std.proofs.lemmas.Bool.{false≢true}
use Rattle.grind_class_joins.proofs.joins.merge_pair.Goals as goal

pub returns-clause-merges : goal.returns-clause-merges
returns-clause-merges c =
    let left = c.requires.0 in
    let right = c.requires.1 in
    inr (
      λ both. false≢true (c.if-same.ensures.1 both),
      (left.0, right.0, c.in_ok-merged.merged.root, left.1, right.1, c.in_ok-merged.ensures.lists left.0 right.0 left.1 right.1),
    )
