use Rattle.std.proofs.Common.{ap}
use Rattle.grind_congruence.specs.Congruence.{Congruence}
use Rattle.grind_board_state.proofs.BeginLemmas.{none_below}
use Rattle.grind_board_state.proofs.beginning.all_active.Goals as goal

pub loop-number-init : goal.loop-number-init
loop-number-init c =
    none_below c.args.terms.now.nodes (record { closure = c.new.result; active = c.new-2.result }) (c.new.ensures.fits c.args.terms.now.nodes)
    (ap (λ (k : Congruence). k.lists) c.new.ensures.value) (ap (λ (k : Congruence). k.edges) c.new.ensures.value) c.new-2.ensures
