use Rattle.grind_cutsat_units.proofs.DraftingLemmas.{none_drafted}
use Rattle.grind_cutsat_units.proofs.drafting.drafted.Goals as goal

pub returns-then-is_empty : goal.returns-then-is_empty
returns-then-is_empty c =
    none_drafted c.args.view.now.facts.now c.args.view.now.next c.args.posts.now c.in_ok-drafts.drafts
    (c.is_empty.ensures.0 c.if-is_empty.true) c.in_ok-drafts.ensures
