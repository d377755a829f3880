use Rattle.std.proofs.Common.{◌∙◌}
use Rattle.grind_congruence.proofs.ClosureLemmas.{taken_back}
use Rattle.grind_congruence.proofs.changing.enlist.Goals as goal

pub returns-in-Err-clause-agenda : goal.returns-in-Err-clause-agenda
returns-in-Err-clause-agenda c =
    c.undo.ensures
    ∙ taken_back 0 c.args.agenda.now c.take_in.new.self c.args.n c.args.node.now c.noted-noted.result c.in_ok-take_in.ensures.ok c.noted-noted.ensures
