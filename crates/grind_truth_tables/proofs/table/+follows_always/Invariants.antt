use Rattle.grind_truth_tables.proofs.table.+follows_always.Given as goal

abbrev pub decreases-follows_always : goal.decreases-follows_always
decreases-follows_always l = l.more
