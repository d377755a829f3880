use Rattle.std.proofs.Common.{ap}
use Rattle.grind_classes.specs.Classes.{Grouping}
use Rattle.grind_scenes.proofs.SceneLemmas.{alone_at_first, next_is_new, alone_next}
use Rattle.grind_scenes.proofs.grouping.alone.Goals as goal

pub loop-n-init : goal.loop-n-init
loop-n-init c = alone_at_first c.new-classes.result.lists (ap (λ (it : Grouping). it.lists) c.new-classes.ensures)

pub activate-requires : goal.activate-requires
activate-requires c = rw c.new.ensures (next_is_new c.loop-n.classes.lists c.loop-n.n c.loop-n.invariant)

pub loop-n-preserved : goal.loop-n-preserved
loop-n-preserved c =
    alone_next c.loop-n.classes.lists c.activate.new.self.lists c.loop-n.n c.loop-n.invariant
    (rw c.new.ensures at c.in_ok-activate.ensures.active) (rw c.new.ensures at c.in_ok-activate.ensures.together)
