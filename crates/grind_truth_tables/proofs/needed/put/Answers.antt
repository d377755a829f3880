use Rattle.grind_truth_tables.proofs.NeededLemmas.{gathers_one}
use Rattle.grind_truth_tables.proofs.needed.put.Goals as goal

pub returns : goal.returns
returns c =
    gathers_one c.args.set.now.keys c.insert.new.self.keys c.args.node (rw c.number.ensures at c.in_ok-insert.ensures.keys)
