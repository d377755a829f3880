use Rattle.std.proofs.Common.{◌<◌, length, arith}
use Rattle.grind_ring_units.proofs.AgendaLemmas.{rows_step}
use Rattle.grind_ring_units.proofs.units.pairs.enter_rows.Goals as goal

pub loop-second-preserved : goal.loop-second-preserved
loop-second-preserved c =
    let low : c.loop-second.second < length c.args.state.now.basis.elements = omega arith in
    rows_step c.args.state.now.basis c.loop-second.second c.loop-second.pairs c.enter_row.new.pairs low c.loop-second.invariant
    c.in_ok-enter_row.ensures
