use Rattle.grind_reach.proofs.MarkLemmas.{table-arguments}
use Rattle.grind_reach.proofs.marking.arguments_stand_before.Goals as goal

pub returns : goal.returns
returns c = table-arguments c.args.table.now.nodes c.len-count.ensures.table
