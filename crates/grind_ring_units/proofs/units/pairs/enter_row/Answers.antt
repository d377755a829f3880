use Rattle.grind_ring_units.proofs.AgendaLemmas.{row_step}
use Rattle.grind_ring_units.proofs.units.pairs.enter_row.Goals as goal

pub loop-first-preserved : goal.loop-first-preserved
loop-first-preserved c =
    row_step c.args.pairs.now c.loop-first.pairs c.push.new.self c.loop-first.first c.args.second c.loop-first-test.true
    c.loop-first.invariant c.in_ok-push.ensures.ok
