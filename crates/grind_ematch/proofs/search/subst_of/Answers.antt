use Rattle.grind_ematch.proofs.MatchLemmas.{slot_is_some}
use Rattle.grind_ematch.proofs.search.subst_of.Goals as goal

pub unwrap-requires : goal.unwrap-requires
unwrap-requires c =
    slot_is_some c.args.slots.now c.loop-slot.slot-index c.slot-item.result c.requires c.loop-slot-test.true c.slot-item.is
