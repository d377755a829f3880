use Rattle.grind_schemes.proofs.FreshLemmas.{placed_in_front}
use Rattle.grind_schemes.proofs.counting.find_node.Goals as goal

pub returns-in-Some : goal.returns-in-Some
returns-in-Some c =
    placed_in_front c.args.table.now.nodes c.args.fresh.now c.args.node c.in-Some.id c.in-Some.ensures.placed c.in-Some.ensures.stored
